-- The rows of the reader's end, each as an equation: what a proof cites in place of the table.
use Rattle.std.specs.Prelude.{◌≡◌, ◌≢◌, ◌+◌, ◌<◌, ◌≤◌, ℕ, Bool, true, false, not, List, [], ◌++◌, length, take, drop}
use Rattle.std.specs.Prelude.{◌==◌, Result, Ok, Err, refl}
use Rattle.std.proofs.Common.{arith, sym}
use Rattle.std.proofs.lemmas.Bool.{lt-ltb, le-ltb, ne_eqb}
use Rattle.t1_link.specs.declared.block.ErrorKind.{ErrorKind}
use Rattle.t1_link.specs.declared.block.ErrorKind.TheVariants.{ErrorFree, OtherError}
use Rattle.t1_link.specs.declared.block.Fault.{Fault}
use Rattle.t1_link.specs.declared.reader_end.Phase.TheVariants.{Idle, Busy, Dead}
use Rattle.t1_link.specs.declared.reader_end.Failure.TheVariants.{LinkLost, BadAnswer}
use Rattle.t1_link.specs.declared.sequence_number.SequenceNumber.{SequenceNumber}
use Rattle.t1_link.specs.Blocks.{Block, information, receive_ready, resynch_request, resynch_response, ifs_request}
use Rattle.t1_link.specs.Blocks.{ifs_response, told_as}
use Rattle.t1_link.specs.SequenceNumbers.{other_number, same}
use Rattle.t1_link.specs.laws.SequenceNumbers.{other-other}
use Rattle.t1_link.specs.ReaderTable.{Reader, advancing, asking, failing, fails, fresh_reader, gives, has_more}
use Rattle.t1_link.specs.ReaderTable.{last_block, reader_sends, reader_takes}
use Rattle.t1_link.specs.ReaderTable.{reader_times_out, requesting, requesting_again, sends, trying, turns_answer}
use Rattle.t1_link.specs.ReaderTable.{turns_block, turns_resynch, unknown}

-- a command is sent
pub reader_sends-idle : (r : Reader) (command : List ℕ) → r.phase ≡ Idle
    → reader_sends r command ≡ advancing (record r { answer = []; phase = Busy }) command
reader_sends-idle r command idle = simp idle refl

pub reader_sends-dead : (r : Reader) (command : List ℕ) → r.phase ≡ Dead
    → reader_sends r command ≡ record { reader = r; outcome = fails LinkLost }
reader_sends-dead r command dead = simp dead refl

-- the block that is sent again is the last one, byte for byte
pub last_block-advancing : (r : Reader) (bytes : List ℕ)
    → (advancing r bytes).outcome ≡ sends (last_block (advancing r bytes).reader)
last_block-advancing r bytes = λ i. sends
    (information (sym (other-other r.ns) i) (not (length (drop 254 bytes) == 0)) (take 254 bytes))

-- a try
pub trying-more : (r : Reader) (b : Block) → r.tries < 3
    → trying r b ≡ record { reader = record r { tries = r.tries + 1 }; outcome = sends b }
trying-more r b left = simp (lt-ltb r.tries 3 left) refl

pub trying-last : (r : Reader) (b : Block) → 3 ≤ r.tries → trying r b ≡ requesting r
trying-last r b none = simp (le-ltb r.tries 3 none) refl

-- row 1
pub reader_times_out-asks : (r : Reader) → r.resynchs ≡ 0 → reader_times_out r ≡ asking r OtherError
reader_times_out-asks r none = simp none refl

-- while the answer is awaited
pub reader_takes-awaits : (r : Reader) (h : Result Block Fault) → r.resynchs ≡ 0 → reader_takes r h ≡ turns_block r h
reader_takes-awaits r h none = simp none refl

-- row 2
pub turns_block-fault : (r : Reader) (fault : Fault) → turns_block r (Err fault) ≡ asking r (told_as fault)
unfolding turns_block
turns_block-fault r fault = refl

-- row 3
pub turns_block-resynch_request : (r : Reader) → turns_block r (Ok resynch_request) ≡ asking r OtherError
unfolding turns_block
turns_block-resynch_request r = refl

pub turns_block-resynch_response : (r : Reader) → turns_block r (Ok resynch_response) ≡ asking r OtherError
unfolding turns_block
turns_block-resynch_response r = refl

pub turns_block-ifs_request : (r : Reader) (size : ℕ) → turns_block r (Ok (ifs_request size)) ≡ asking r OtherError
unfolding turns_block
turns_block-ifs_request r size = refl

pub turns_block-ifs_response : (r : Reader) (size : ℕ) → turns_block r (Ok (ifs_response size)) ≡ asking r OtherError
unfolding turns_block
turns_block-ifs_response r size = refl

-- row 4
pub turns_block-again : (r : Reader) (number : SequenceNumber) (error : ErrorKind)
    → same number (other_number r.ns) ≡ true
    → turns_block r (Ok (receive_ready number error)) ≡ trying r (last_block r)
unfolding turns_block
turns_block-again r number error asked = simp asked refl

-- row 5
pub turns_block-next : (r : Reader) (number : SequenceNumber) (error : ErrorKind)
    → same number (other_number r.ns) ≡ false → has_more r ≡ true
    → turns_block r (Ok (receive_ready number error)) ≡ advancing r r.rest
unfolding turns_block
turns_block-next r number error other more = simp (other, more) refl

-- row 6
pub turns_block-nothing : (r : Reader) (number : SequenceNumber) (error : ErrorKind)
    → same number (other_number r.ns) ≡ false → has_more r ≡ false
    → turns_block r (Ok (receive_ready number error)) ≡ asking r OtherError
unfolding turns_block
turns_block-nothing r number error other last = simp (other, last) refl

-- row 7
pub turns_block-interrupted : (r : Reader) (number : SequenceNumber) (more : Bool) (field : List ℕ) → has_more r ≡ true
    → turns_block r (Ok (information number more field)) ≡ asking r OtherError
unfolding turns_block
turns_block-interrupted r number more field unsent = simp unsent refl

pub turns_block-repeated : (r : Reader) (number : SequenceNumber) (more : Bool) (field : List ℕ) → has_more r ≡ false
    → same number r.nr ≡ false
    → turns_block r (Ok (information number more field)) ≡ asking r OtherError
unfolding turns_block
turns_block-repeated r number more field sent other = simp (sent, other) refl

-- rows 8 and 9
pub turns_block-joins : (r : Reader) (number : SequenceNumber) (more : Bool) (field : List ℕ) → has_more r ≡ false
    → same number r.nr ≡ true
    → turns_block r (Ok (information number more field)) ≡ turns_answer r more (r.answer ++ field)
unfolding turns_block
turns_block-joins r number more field sent expected = simp (sent, expected) refl

pub turns_answer-long : (r : Reader) (more : Bool) (bytes : List ℕ) → 258 < length bytes
    → turns_answer r more bytes ≡ failing r BadAnswer
turns_answer-long r more bytes long = simp (lt-ltb 258 (length bytes) long) refl

-- row 8
pub turns_answer-more : (r : Reader) (bytes : List ℕ) → length bytes ≤ 258
    → turns_answer r true bytes ≡ record {
      reader = record r { nr = other_number r.nr; tries = 0; answer = bytes };
      outcome =
          sends (receive_ready (other_number r.nr) ErrorFree);
    }
turns_answer-more r bytes fits = simp (le-ltb 258 (length bytes) fits) refl

-- row 9
pub turns_answer-short : (r : Reader) (bytes : List ℕ) → length bytes < 2
    → turns_answer r false bytes ≡ failing r BadAnswer
turns_answer-short r bytes short = let fits : length bytes ≤ 258 = omega arith in
    simp (le-ltb 258 (length bytes) fits, lt-ltb (length bytes) 2 short) refl

pub turns_answer-done : (r : Reader) (bytes : List ℕ) → 2 ≤ length bytes → length bytes ≤ 258
    → turns_answer r false bytes ≡ record
    { reader = record r { nr = other_number r.nr; answer = bytes; phase = Idle }; outcome = gives bytes }
turns_answer-done r bytes long fits = simp (le-ltb 258 (length bytes) fits, le-ltb (length bytes) 2 long) refl

-- after a request for RESYNCH
pub reader_takes-resynch : (r : Reader) (h : Result Block Fault) → 0 < r.resynchs → reader_takes r h ≡ turns_resynch r h
reader_takes-resynch r h some = simp (ne_eqb r.resynchs 0 (λ e. absurd (omega arith))) refl

pub reader_times_out-resynch : (r : Reader) → 0 < r.resynchs → reader_times_out r ≡ requesting_again r
reader_times_out-resynch r some = simp (ne_eqb r.resynchs 0 (λ e. absurd (omega arith))) refl

pub turns_resynch-answered : (r : Reader)
    → turns_resynch r (Ok resynch_response) ≡ record { reader = fresh_reader; outcome = unknown }
unfolding turns_resynch
turns_resynch-answered r = refl

pub turns_resynch-else : (r : Reader) (h : Result Block Fault) → h ≢ Ok resynch_response
    → turns_resynch r h ≡ requesting_again r
unfolding turns_resynch
turns_resynch-else r (Err fault) other = refl
turns_resynch-else r (Ok (information number more field)) other = refl
turns_resynch-else r (Ok (receive_ready number error)) other = refl
turns_resynch-else r (Ok resynch_request) other = refl
turns_resynch-else r (Ok resynch_response) other = absurd (other refl)
turns_resynch-else r (Ok (ifs_request size)) other = refl
turns_resynch-else r (Ok (ifs_response size)) other = refl

pub requesting_again-more : (r : Reader) → r.resynchs < 3 → requesting_again r ≡ requesting r
requesting_again-more r left = simp (lt-ltb r.resynchs 3 left) refl

pub requesting_again-last : (r : Reader) → 3 ≤ r.resynchs → requesting_again r ≡ failing r LinkLost
requesting_again-last r none = simp (le-ltb r.resynchs 3 none) refl
