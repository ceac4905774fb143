-- What both ends put on the line can be spelled, by bytes and in at most 254 of them.
use Rattle.std.specs.Prelude.{◌≡◌, ◌≤◌, ◌<◌, ◌+◌, ◌==◌, ◌||◌, ℕ, Bool, true, false, not, nat_lt, if◌then◌else◌, List}
use Rattle.std.specs.Prelude.{[], ◌∷◌, ◌++◌, length, take, fold, bit_xor, unwrap_or, Result, Ok, Err, refl}
use Rattle.std.specs.List.{list_all}
use Rattle.std.proofs.Common.{arith, length-take}
use Rattle.std.proofs.lemmas.Bool.{lt-ltb}
use Rattle.std.proofs.lemmas.List.Elements.{All-nil, All-cons, All-head, All-tail, All-append, All-take, All-drop}
use Rattle.std.proofs.lemmas.Nat.{xor_lt}
use Rattle.t1_link.specs.declared.block.ErrorKind.{ErrorKind}
use Rattle.t1_link.specs.declared.block.ErrorKind.TheVariants.{ErrorFree, RedundancyError, OtherError}
use Rattle.t1_link.specs.declared.block.Fault.{Fault}
use Rattle.t1_link.specs.declared.reader_end.Phase.TheVariants.{Busy, Idle}
use Rattle.t1_link.specs.declared.reader_end.Failure.{Failure}
use Rattle.t1_link.specs.declared.reader_end.Failure.TheVariants.{BadAnswer, LinkLost}
use Rattle.t1_link.specs.declared.sequence_number.SequenceNumber.{SequenceNumber}
use Rattle.t1_link.specs.declared.sequence_number.SequenceNumber.TheVariants.{Zero, One}
use Rattle.t1_link.specs.Blocks.{Block, IsSpellable, control_byte, error_code, exclusive_or, field_of, frame}
use Rattle.t1_link.specs.Blocks.{checked_bytes}
use Rattle.t1_link.specs.Blocks.{information, receive_ready}
use Rattle.t1_link.specs.Blocks.{resynch_request, resynch_response, ifs_request, ifs_response, told_as}
use Rattle.t1_link.specs.SequenceNumbers.{at_bit, other_number, same}
use Rattle.t1_link.specs.BlockLaws.{length-field}
use Rattle.t1_link.specs.CardTable.{Link, Reaction, Taken, card_takes, joined, refusing, replies, replying, runs}
use Rattle.t1_link.specs.CardTable.{sending, sent_block, sent_more, sent_number, takes_information, takes_receive_ready}
use Rattle.t1_link.specs.ReaderTable.{CommandReport, Reader, Turned, advancing, asking, failing, fails, gives, has_more}
use Rattle.t1_link.specs.ReaderTable.{is_dead, last_block, reader_sends}
use Rattle.t1_link.specs.ReaderTable.{reader_takes, reader_times_out, requesting, requesting_again, sends, trying}
use Rattle.t1_link.specs.ReaderTable.{turns_answer, turns_block}
use Rattle.t1_link.specs.ReaderTable.{turns_information, turns_receive_ready, turns_resynch, unknown}
use Rattle.card_model.specs.Requests.{AreBytes}
use Rattle.card_model.specs.laws.ProperLaws.{either-if}

-- a block that has bytes, and an information field of bytes
pub record IsSound (b : Block) : Type 0 where
  pub spellable : IsSpellable b
  pub bytes : AreBytes (field_of b)

-- what was heard is no block, or a sound one
abbrev pub IsSoundlyHeard : Result Block Fault → Type 0
IsSoundlyHeard (Ok b) = IsSound b
IsSoundlyHeard (Err fault) = Unit {0}

pub record IsSoundLink (l : Link) : Type 0 where
  pub size : l.ifsd ≤ 254
  pub sent : length (unwrap_or l.sent []) ≤ 254
  pub sent_bytes : AreBytes (unwrap_or l.sent [])
  pub rest : AreBytes l.rest
  pub held : AreBytes l.held

abbrev pub IsSoundReaction : Reaction → Type 0
IsSoundReaction (replies b) = IsSound b
IsSoundReaction (runs command) = AreBytes command

pub record IsSoundTaken (t : Taken) : Type 0 where
  pub link : IsSoundLink t.link
  pub reaction : IsSoundReaction t.reaction

pub record IsSoundReader (r : Reader) : Type 0 where
  pub size : length r.field ≤ 254
  pub field : AreBytes r.field
  pub rest : AreBytes r.rest

abbrev pub IsSoundOutcome : CommandReport → Type 0
IsSoundOutcome (sends b) = IsSound b
IsSoundOutcome (gives answer) = Unit {0}
IsSoundOutcome unknown = Unit {0}
IsSoundOutcome (fails failure) = Unit {0}

pub record IsSoundTurned (t : Turned) : Type 0 where
  pub reader : IsSoundReader t.reader
  pub outcome : IsSoundOutcome t.outcome

no_bytes : AreBytes []
no_bytes = All-nil (λ number. number < 256)

short : (limit : ℕ) (bytes : List ℕ) → limit ≤ 254 → length (take limit bytes) ≤ 254
short limit bytes small = let n = length-take limit bytes in omega (arith, n, small)

sound-ready : (number : SequenceNumber) (error : ErrorKind) → IsSound (receive_ready number error)
sound-ready number error = record { spellable = tt; bytes = no_bytes }

-- the card's end
sound-refusing : (l : Link) (error : ErrorKind) → IsSoundLink l → IsSoundTaken (refusing l error)
sound-refusing l error s = record { link = s; reaction = sound-ready l.nr error }

pub sound-sending : (l : Link) (bytes : List ℕ) → IsSoundLink l → AreBytes bytes → IsSoundTaken (sending l bytes)
sound-sending l bytes s all =
    let first = All-take (λ number. number < 256) l.ifsd bytes all in
    record {
      link = record {
        size = s.size;
        sent = short l.ifsd bytes s.size;
        sent_bytes = first;
        rest = All-drop (λ number. number < 256) l.ifsd bytes all;
        held = s.held;
      };
      reaction = record { spellable = short l.ifsd bytes s.size; bytes = first };
    }

sound-asked : (l : Link) (number : SequenceNumber) → IsSoundLink l → IsSoundTaken (takes_receive_ready l number)
sound-asked l number s =
    let again : IsSoundTaken (replying l (sent_block l)) =
    record { link = s; reaction = record { spellable = s.sent; bytes = s.sent_bytes } } in
    either-if IsSoundTaken (sent_number l number) (replying l (sent_block l))
    (if sent_more l then sending l l.rest else refusing l ErrorFree) again (either-if IsSoundTaken (sent_more l)
    (sending l l.rest) (refusing l ErrorFree) (sound-sending l l.rest s s.rest) (sound-refusing l ErrorFree s))

sound-information : (l : Link) (number : SequenceNumber) (more : Bool) (field : List ℕ) → IsSoundLink l → AreBytes field
    → IsSoundTaken (takes_information l number more field)
sound-information l number more field s all =
    let both : AreBytes (joined l field) = All-take (λ number. number < 256) 262 (l.held ++ field)
    (All-append (λ number. number < 256) l.held field s.held all) in
    let refused : Taken = refusing l OtherError in
    let refused-sound : IsSoundTaken refused = sound-refusing l OtherError s in
    let joins : Taken = refusing (record l { nr = other_number l.nr; held = joined l field }) ErrorFree in
    let joins-sound : IsSoundTaken joins = record {
      link = record { size = s.size; sent = s.sent; sent_bytes = s.sent_bytes; rest = s.rest; held = both };
      reaction = sound-ready (other_number l.nr) ErrorFree;
    } in
    let whole : Taken =
    record { link = record l { nr = other_number l.nr; held = [] }; reaction = runs (joined l field) } in
    let whole-sound : IsSoundTaken whole = record {
      link = record { size = s.size; sent = s.sent; sent_bytes = s.sent_bytes; rest = s.rest; held = no_bytes };
      reaction = both;
    } in
    either-if IsSoundTaken (sent_more l) refused (if not (same number l.nr) then refused else if more then joins
    else whole) refused-sound (either-if IsSoundTaken (not (same number l.nr)) refused (if more then joins else whole)
    refused-sound (either-if IsSoundTaken more joins whole joins-sound whole-sound))

pub sound-taken : (l : Link) (h : Result Block Fault) → IsSoundLink l → IsSoundlyHeard h → IsSoundTaken (card_takes l h)
unfolding card_takes
sound-taken l (Err fault) s x = sound-refusing l (told_as fault) s
sound-taken l (Ok resynch_request) s x = record {
  link = record { size = omega arith; sent = omega arith; sent_bytes = no_bytes; rest = no_bytes; held = no_bytes };
  reaction = record { spellable = tt; bytes = no_bytes };
}
sound-taken l (Ok (ifs_request size)) s x = record {
  link = record { size = x.spellable.1; sent = s.sent; sent_bytes = s.sent_bytes; rest = s.rest; held = s.held };
  reaction = record { spellable = x.spellable; bytes = x.bytes };
}
sound-taken l (Ok resynch_response) s x = sound-refusing l OtherError s
sound-taken l (Ok (ifs_response size)) s x = sound-refusing l OtherError s
sound-taken l (Ok (receive_ready number error)) s x = sound-asked l number s
sound-taken l (Ok (information number more field)) s x = sound-information l number more field s x.bytes

-- the reader's end
sound-requesting : (r : Reader) → IsSoundReader r → IsSoundTurned (requesting r)
sound-requesting r s = record {
  reader = record { size = s.size; field = s.field; rest = s.rest };
  outcome = record { spellable = tt; bytes = no_bytes };
}

sound-trying : (r : Reader) (b : Block) → IsSoundReader r → IsSound b → IsSoundTurned (trying r b)
sound-trying r b s x =
    let tried : Turned = record { reader = record r { tries = r.tries + 1 }; outcome = sends b } in
    either-if IsSoundTurned (nat_lt r.tries 3) tried (requesting r)
    (record { reader = record { size = s.size; field = s.field; rest = s.rest }; outcome = x }) (sound-requesting r s)

sound-asking : (r : Reader) (error : ErrorKind) → IsSoundReader r → IsSoundTurned (asking r error)
sound-asking r error s = sound-trying r (receive_ready r.nr error) s (sound-ready r.nr error)

sound-advancing : (r : Reader) (bytes : List ℕ) → AreBytes bytes → IsSoundTurned (advancing r bytes)
sound-advancing r bytes all =
    let first = All-take (λ number. number < 256) 254 bytes all in
    let small = short 254 bytes (omega arith) in
    record {
      reader = record { size = small; field = first; rest = All-drop (λ number. number < 256) 254 bytes all };
      outcome = record { spellable = small; bytes = first };
    }

sound-failing : (r : Reader) (failure : Failure) → IsSoundReader r → IsSoundTurned (failing r failure)
sound-failing r failure s = record { reader = record { size = s.size; field = s.field; rest = s.rest }; outcome = tt }

sound-again : (r : Reader) → IsSoundReader r → IsSoundTurned (requesting_again r)
sound-again r s = either-if IsSoundTurned (nat_lt r.resynchs 3) (requesting r) (failing r LinkLost)
    (sound-requesting r s) (sound-failing r LinkLost s)

sound-next : (r : Reader) (number : SequenceNumber) → IsSoundReader r → IsSoundTurned (turns_receive_ready r number)
sound-next r number s =
    either-if IsSoundTurned (same number (other_number r.ns)) (trying r (last_block r))
    (if has_more r then advancing r r.rest else asking r OtherError) (sound-trying r (last_block r) s
    (record { spellable = s.size; bytes = s.field })) (either-if IsSoundTurned (has_more r) (advancing r r.rest)
    (asking r OtherError) (sound-advancing r r.rest s.rest) (sound-asking r OtherError s))

sound-answer : (r : Reader) (more : Bool) (bytes : List ℕ) → IsSoundReader r → IsSoundTurned (turns_answer r more bytes)
sound-answer r more bytes s =
    let bad : Turned = failing r BadAnswer in
    let joins : Turned = record {
      reader = record r { nr = other_number r.nr; tries = 0; answer = bytes };
      outcome = sends (receive_ready (other_number r.nr) ErrorFree);
    } in
    let joins-sound : IsSoundTurned joins = record {
      reader = record { size = s.size; field = s.field; rest = s.rest };
      outcome = sound-ready (other_number r.nr) ErrorFree;
    } in
    let done : Turned =
    record { reader = record r { nr = other_number r.nr; answer = bytes; phase = Idle }; outcome = gives bytes } in
    let done-sound : IsSoundTurned done =
    record { reader = record { size = s.size; field = s.field; rest = s.rest }; outcome = tt } in
    let whole : Turned = if nat_lt (length bytes) 2 then bad else done in
    either-if IsSoundTurned (nat_lt 258 (length bytes)) bad
    (if more then joins else whole) (sound-failing r BadAnswer s) (either-if IsSoundTurned more joins whole joins-sound
    (either-if IsSoundTurned (nat_lt (length bytes) 2) bad done (sound-failing r BadAnswer s) done-sound))

sound-joined : (r : Reader) (number : SequenceNumber) (more : Bool) (field : List ℕ) → IsSoundReader r
    → IsSoundTurned (turns_information r number more field)
sound-joined r number more field s =
    either-if IsSoundTurned (has_more r || not (same number r.nr)) (asking r OtherError)
    (turns_answer r more (r.answer ++ field)) (sound-asking r OtherError s) (sound-answer r more (r.answer ++ field) s)

sound-block : (r : Reader) (h : Result Block Fault) → IsSoundReader r → IsSoundTurned (turns_block r h)
unfolding turns_block
sound-block r (Err fault) s = sound-asking r (told_as fault) s
sound-block r (Ok resynch_request) s = sound-asking r OtherError s
sound-block r (Ok resynch_response) s = sound-asking r OtherError s
sound-block r (Ok (ifs_request size)) s = sound-asking r OtherError s
sound-block r (Ok (ifs_response size)) s = sound-asking r OtherError s
sound-block r (Ok (receive_ready number error)) s = sound-next r number s
sound-block r (Ok (information number more field)) s = sound-joined r number more field s

sound-resynch : (r : Reader) (h : Result Block Fault) → IsSoundReader r → IsSoundTurned (turns_resynch r h)
unfolding turns_resynch
sound-resynch r (Err fault) s = sound-again r s
sound-resynch r (Ok resynch_request) s = sound-again r s
sound-resynch r (Ok resynch_response) s =
    record { reader = record { size = omega arith; field = no_bytes; rest = no_bytes }; outcome = tt }
sound-resynch r (Ok (ifs_request size)) s = sound-again r s
sound-resynch r (Ok (ifs_response size)) s = sound-again r s
sound-resynch r (Ok (receive_ready number error)) s = sound-again r s
sound-resynch r (Ok (information number more field)) s = sound-again r s

pub sound-turned : (r : Reader) (h : Result Block Fault) → IsSoundReader r → IsSoundTurned (reader_takes r h)
sound-turned r h s = either-if IsSoundTurned (r.resynchs == 0) (turns_block r h) (turns_resynch r h)
    (sound-block r h s) (sound-resynch r h s)

pub sound-in_vain : (r : Reader) → IsSoundReader r → IsSoundTurned (reader_times_out r)
sound-in_vain r s = either-if IsSoundTurned (r.resynchs == 0) (asking r OtherError) (requesting_again r)
    (sound-asking r OtherError s) (sound-again r s)

pub sound-sends : (r : Reader) (command : List ℕ) → IsSoundReader r → AreBytes command
    → IsSoundTurned (reader_sends r command)
sound-sends r command s all =
    let ready : Reader = record r { answer = []; phase = Busy } in
    either-if IsSoundTurned (is_dead r.phase) (record { reader = r; outcome = fails LinkLost })
    (advancing ready command) (record { reader = s; outcome = tt }) (sound-advancing ready command all)

-- the bytes of a sound block
number-bit : (a : SequenceNumber) (b : Bool) → at_bit 0x40 a + (if b then 0x20 else 0) < 256
number-bit One true = omega arith
number-bit One false = omega arith
number-bit Zero true = omega arith
number-bit Zero false = omega arith

ready-bits : (a : SequenceNumber) (error : ErrorKind) → 0x80 + at_bit 0x10 a + error_code error < 256
ready-bits One ErrorFree = omega arith
ready-bits One RedundancyError = omega arith
ready-bits One OtherError = omega arith
ready-bits Zero ErrorFree = omega arith
ready-bits Zero RedundancyError = omega arith
ready-bits Zero OtherError = omega arith

control-byte : (b : Block) → control_byte b < 256
control-byte (information number more field) = number-bit number more
control-byte (receive_ready number error) = ready-bits number error
control-byte resynch_request = omega arith
control-byte resynch_response = omega arith
control-byte (ifs_request size) = omega arith
control-byte (ifs_response size) = omega arith

folded-byte : (start : ℕ) (bytes : List ℕ) → start < 256 → AreBytes bytes → fold bit_xor start bytes < 256
folded-byte start [] small all = small
folded-byte start (x ∷ bytes) small all =
    let first : x < 256 = All-head (λ number. number < 256) x bytes all in
    folded-byte (bit_xor start x) bytes (xor_lt 8 start x small first) (All-tail (λ number. number < 256) x bytes all)

front-bytes : (b : Block) → IsSound b → AreBytes (checked_bytes b)
front-bytes b s =
    let small = length-field b s.spellable in
    let size : length (field_of b) < 256 = omega (arith, small) in
    All-cons (λ number. number < 256) 0 (control_byte b ∷ length (field_of b) ∷ field_of b) (omega arith)
    (All-cons (λ number. number < 256) (control_byte b) (length (field_of b) ∷ field_of b) (control-byte b)
    (All-cons (λ number. number < 256) (length (field_of b)) (field_of b) size s.bytes))

pub frame-bytes : (b : Block) → IsSound b → AreBytes (frame b)
frame-bytes b s =
    let all = front-bytes b s in
    All-append (λ number. number < 256) (checked_bytes b) (exclusive_or (checked_bytes b) ∷ []) all
    (All-cons (λ number. number < 256) (exclusive_or (checked_bytes b)) [] (folded-byte 0 (checked_bytes b)
    (omega arith) all) no_bytes)

-- in the words of the world
pub told-bytes : (bytes : List ℕ) → AreBytes bytes → list_all (λ number. nat_lt number 256) bytes ≡ true
told-bytes [] all = refl
told-bytes (x ∷ bytes) all = simp (lt-ltb x 256 (All-head (λ number. number < 256) x bytes all))
    (told-bytes bytes (All-tail (λ number. number < 256) x bytes all))
