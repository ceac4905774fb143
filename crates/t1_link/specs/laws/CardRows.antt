-- The rows of the card's end, each as an equation: what a proof cites in place of the table.
use Rattle.std.specs.Prelude.{◌≡◌, Bool, true, false, not, List, [], ℕ, Ok, Err, refl, length, take, drop, ◌==◌}
use Rattle.std.proofs.Common.{sym}
use Rattle.t1_link.specs.declared.block.ErrorKind.{ErrorKind}
use Rattle.t1_link.specs.declared.block.ErrorKind.TheVariants.{ErrorFree, OtherError}
use Rattle.t1_link.specs.declared.block.Fault.{Fault}
use Rattle.t1_link.specs.declared.sequence_number.SequenceNumber.{SequenceNumber}
use Rattle.t1_link.specs.Blocks.{information, receive_ready, resynch_request, resynch_response, ifs_request}
use Rattle.t1_link.specs.Blocks.{ifs_response, told_as}
use Rattle.t1_link.specs.SequenceNumbers.{other_number, same}
use Rattle.t1_link.specs.laws.SequenceNumbers.{other-other}
use Rattle.t1_link.specs.CardTable.{Link, card_takes, fresh, joined, refusing, replying, runs, sending, sent_block}
use Rattle.t1_link.specs.CardTable.{sent_more, sent_number}

-- the block that is sent again is the last one, byte for byte
pub sent_block-sending : (l : Link) (bytes : List ℕ)
    → sending l bytes ≡ replying (sending l bytes).link (sent_block (sending l bytes).link)
sent_block-sending l bytes = λ i. replying (sending l bytes).link
    (information (sym (other-other l.ns) i) (not (length (drop l.ifsd bytes) == 0)) (take l.ifsd bytes))

-- rows 1 to 3
pub card_takes-fault : (l : Link) (fault : Fault) → card_takes l (Err fault) ≡ refusing l (told_as fault)
unfolding card_takes
card_takes-fault l fault = refl

-- row 4
pub card_takes-resynch : (l : Link) → card_takes l (Ok resynch_request) ≡ replying fresh resynch_response
unfolding card_takes
card_takes-resynch l = refl

-- row 5
pub card_takes-size : (l : Link) (size : ℕ)
    → card_takes l (Ok (ifs_request size)) ≡ replying (record l { ifsd = size }) (ifs_response size)
unfolding card_takes
card_takes-size l size = refl

-- row 6
pub card_takes-response : (l : Link) → card_takes l (Ok resynch_response) ≡ refusing l OtherError
unfolding card_takes
card_takes-response l = refl

pub card_takes-size_response : (l : Link) (size : ℕ) → card_takes l (Ok (ifs_response size)) ≡ refusing l OtherError
unfolding card_takes
card_takes-size_response l size = refl

-- row 7
pub card_takes-again : (l : Link) (number : SequenceNumber) (error : ErrorKind) → sent_number l number ≡ true
    → card_takes l (Ok (receive_ready number error)) ≡ replying l (sent_block l)
unfolding card_takes
card_takes-again l number error asked = simp asked refl

-- row 8
pub card_takes-next : (l : Link) (number : SequenceNumber) (error : ErrorKind) → sent_number l number ≡ false
    → sent_more l ≡ true
    → card_takes l (Ok (receive_ready number error)) ≡ sending l l.rest
unfolding card_takes
card_takes-next l number error other more = simp (other, more) refl

-- row 9
pub card_takes-nothing : (l : Link) (number : SequenceNumber) (error : ErrorKind) → sent_number l number ≡ false
    → sent_more l ≡ false
    → card_takes l (Ok (receive_ready number error)) ≡ refusing l ErrorFree
unfolding card_takes
card_takes-nothing l number error other last = simp (other, last) refl

-- row 10
pub card_takes-interrupted : (l : Link) (number : SequenceNumber) (more : Bool) (field : List ℕ) → sent_more l ≡ true
    → card_takes l (Ok (information number more field)) ≡ refusing l OtherError
unfolding card_takes
card_takes-interrupted l number more field unsent = simp unsent refl

-- row 11
pub card_takes-repeated : (l : Link) (number : SequenceNumber) (more : Bool) (field : List ℕ) → sent_more l ≡ false
    → same number l.nr ≡ false
    → card_takes l (Ok (information number more field)) ≡ refusing l OtherError
unfolding card_takes
card_takes-repeated l number more field sent other = simp (sent, other) refl

-- row 12
pub card_takes-joins : (l : Link) (number : SequenceNumber) (field : List ℕ) → sent_more l ≡ false
    → same number l.nr ≡ true
    → card_takes l (Ok (information number true field)) ≡ refusing
    (record l { nr = other_number l.nr; held = joined l field }) ErrorFree
unfolding card_takes
card_takes-joins l number field sent expected = simp (sent, expected) refl

-- row 13
pub card_takes-runs : (l : Link) (number : SequenceNumber) (field : List ℕ) → sent_more l ≡ false
    → same number l.nr ≡ true
    → card_takes l (Ok (information number false field)) ≡ record
    { link = record l { nr = other_number l.nr; held = [] }; reaction = runs (joined l field) }
unfolding card_takes
card_takes-runs l number field sent expected = simp (sent, expected) refl
