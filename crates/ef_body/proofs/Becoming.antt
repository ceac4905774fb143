-- Bodies after bytes were put into a slot.
use Rattle.std.proofs.Common.{sym, ◌∙◌, ap, ap₂, arith}
use Rattle.std.specs.Prelude.{◌≡◌, ◌<◌, ◌≤◌, ◌+◌, ◌-◌, ◌*◌, ◌%◌, ℕ, List, [], ◌∷◌, ◌++◌, length}
use Rattle.std.specs.Prelude.{slice_set, take, drop}
use Rattle.nvm_board.specs.Facts.{IsMemory}
use Rattle.block_chain.specs.Chains.{chain_of, chain_bytes, bytes_of}
use Rattle.block_chain.specs.ChainChanges.{Overwrites}
use Rattle.card_model.specs.FileTrees.{overwrite}
use Rattle.block_chain.specs.laws.Bytes.{leads_blocks, length-bytes_of}
use Rattle.ef_body.specs.declared.cyclic.Cyclic.{Cyclic}
use Rattle.ef_contents.specs.Records.{slot_record, newest_first}
use Rattle.card_model.specs.RecordLists.{front, record_of}
use Rattle.ef_body.specs.Bodies.{counts_word, number_told, start_told, cyclic_body_records}
use Rattle.ef_body.specs.Bodies.{IsCyclic}
use Rattle.ef_body.specs.BodyChanges.{CyclicBecomes, RecordsBecome, PutsRecord}
use Rattle.ef_body.specs.laws.Lists.{slot_before, slot_before-small}
use Rattle.ef_body.specs.laws.Lists.{newest_first-front, newest_first-put, newest_first-back}
use Rattle.ef_body.specs.laws.Lists.{at-newest_first}
use Rattle.ef_body.specs.laws.Rings.{told_number, told_start, cyclic_is}
use Rattle.ef_contents.specs.laws.Slots.{slot-within, slot-take, length-slot}
use Rattle.std.proofs.Math.Nat.{mod-lt}
use Rattle.chain_bytes.specs.laws.Keeping.{chain_kept, before_kept}
use Rattle.block_links.specs.StoredBlocks.{LieIn}

-- as many bytes as the blocks have
pub ring_fits : (m : List ℕ) (c : Cyclic) → IsMemory m → IsCyclic m c
    → c.capacity * c.record_length ≤ length (chain_bytes m c.chain)
ring_fits m c sized is =
    let long = length-bytes_of m (chain_of m c.chain) sized
    (leads_blocks m c.chain.first 0 (chain_of m c.chain) is.slots.chain.leads) in
    let fits = is.slots.fits in
    omega (arith, long, fits)

-- a record that is put into a slot lies in the blocks
pub slot_lies : (m : List ℕ) (ring : Cyclic) (bytes : List ℕ) → IsCyclic m ring → length bytes ≡ ring.record_length
    → (slot_record offset : ℕ) → slot_record < ring.capacity → offset ≡ slot_record * ring.record_length
    → LieIn m ring.chain offset (length bytes)
slot_lies m ring bytes is long slot_record offset within at =
    let inside = slot-within ring.record_length slot_record ring.capacity within in
    let fits = is.slots.fits in
    let small = is.slots.small in
    record {
      chain = is.slots.chain;
      within = omega (arith, at, inside, fits, long);
      small = omega (arith, at, inside, small, long);
    }

-- a record in place of another
pub ring_put : (m after : List ℕ) (ring : Cyclic) (number : ℕ) (bytes : List ℕ) → IsMemory m → IsCyclic m ring
    → length bytes ≡ ring.record_length → 1 ≤ number → number ≤ ring.records
    → (slot_record offset : ℕ) → slot_record ≡ (ring.start + number - 1) % ring.capacity
    → offset ≡ slot_record * ring.record_length
    → Overwrites m (chain_of m ring.chain) offset bytes after
    → RecordsBecome m ring (slice_set (cyclic_body_records m ring) (number - 1) bytes) after
ring_put m after ring number bytes sized is long some most slot_record offset lies at over =
    let size = ring.record_length in
    let bs = chain_bytes m ring.chain in
    let few = is.slots.few in
    let small : ring.start < 0x10000 = (let start = is.start in omega (arith, few, start)) in
    let blocks = chain_kept m after ring.chain offset bytes sized is.slots.chain over in
    let told =
    before_kept m after ring.chain offset bytes sized is.slots.chain over ring.counts_at is.slots.entry ∙ is.told in
    let first = told_start after ring.counts_at ring.records ring.start told small in
    let count = told_number after ring.counts_at ring.records ring.start told small in
    let place : ring.start + number - 1 ≡ ring.start + (number - 1) = omega (arith, some) in
    let here : offset ≡ (ring.start + (number - 1)) % ring.capacity * size =
    at ∙ ap (λ (s : ℕ). s * size) (lies ∙ ap (λ (i : ℕ). i % ring.capacity) place) in
    let content : chain_bytes after ring.chain
    ≡ overwrite bs ((ring.start + (number - 1)) % ring.capacity * size) bytes =
    ap (bytes_of after) blocks ∙ over.content ∙ ap (λ (o : ℕ). overwrite bs o bytes) here in
    record {
      becomes = ap (λ (l : List ℕ). newest_first size ring.capacity l (start_told after ring.counts_at)
          (number_told after ring.counts_at)) content
          ∙ ap₂ (newest_first size ring.capacity
          (overwrite bs ((ring.start + (number - 1)) % ring.capacity * size) bytes)) first count
          ∙ newest_first-put size ring.capacity bs ring.start ring.records bytes long (ring_fits m ring sized is)
          is.start (number - 1) (omega (arith, some, most)) is.number
          ∙ ap (λ (l : List (List ℕ)). slice_set l (number - 1) bytes) (sym (cyclic_is m ring is));
      start = first;
      blocks = blocks;
      only = record {
        size = over.only.size;
        others = λ page place small away other. over.only.others page place
            small away;
      };
    }

-- a record behind the last one
pub ring_added : (m after : List ℕ) (ring : Cyclic) (bytes : List ℕ) → IsMemory m → IsCyclic m ring
    → length bytes ≡ ring.record_length → ring.records < ring.capacity
    → (slot_record offset told : ℕ) → slot_record ≡ (ring.start + (ring.records + 1) - 1) % ring.capacity
    → offset ≡ slot_record * ring.record_length → told ≡ counts_word (ring.records + 1) ring.start
    → PutsRecord m ring.chain offset bytes ring.counts_at told after
    → RecordsBecome m ring (cyclic_body_records m ring ++ bytes ∷ []) after
ring_added m after ring bytes sized is long room slot_record offset told lies at tells puts =
    let size = ring.record_length in
    let bs = chain_bytes m ring.chain in
    let few = is.slots.few in
    let small : ring.start < 0x10000 = (let start = is.start in omega (arith, few, start)) in
    let first = told_start after ring.counts_at (ring.records + 1) ring.start (puts.tells ∙ tells) small in
    let count = told_number after ring.counts_at (ring.records + 1) ring.start (puts.tells ∙ tells) small in
    let place : ring.start + (ring.records + 1) - 1 ≡ ring.start + ring.records = omega arith in
    let here : offset ≡ (ring.start + ring.records) % ring.capacity * size =
    at ∙ ap (λ (s : ℕ). s * size) (lies ∙ ap (λ (i : ℕ). i % ring.capacity) place) in
    record {
      becomes = ap (λ (l : List ℕ). newest_first size ring.capacity l (start_told after ring.counts_at)
          (number_told after ring.counts_at)) (puts.becomes ∙ ap (λ (o : ℕ). overwrite bs o bytes) here)
          ∙ ap₂ (newest_first size ring.capacity
          (overwrite bs ((ring.start + ring.records) % ring.capacity * size) bytes)) first count
          ∙ newest_first-back size ring.capacity bs ring.start ring.records bytes long (ring_fits m ring sized is)
          is.start room
          ∙ ap (λ (l : List (List ℕ)). l ++ bytes ∷ []) (sym (cyclic_is m ring is));
      start = first;
      blocks = puts.blocks;
      only = puts.only;
    }

-- a record before the others
pub cyclic_front : (m after : List ℕ) (body : Cyclic) (bytes : List ℕ) (n : ℕ) → IsMemory m → IsCyclic m body
    → length bytes ≡ body.record_length → 1 ≤ n → n ≤ body.capacity → n ≤ body.records + 1
    → (slot_record offset told : ℕ) → slot_record ≡ slot_before body.start body.capacity
    → offset ≡ slot_record * body.record_length
    → told ≡ counts_word n slot_record → PutsRecord m body.chain offset bytes body.counts_at told after
    → CyclicBecomes m body (front n bytes (cyclic_body_records m body)) after
cyclic_front m after body bytes n sized is long some most more slot_record offset told before at tells puts =
    let size = body.record_length in
    let bs = chain_bytes m body.chain in
    let low = slot_before-small body.start body.capacity is.start in
    let few = is.slots.few in
    let small : slot_record < 0x10000 = omega (arith, few, low, before) in
    let number = told_number after body.counts_at n slot_record (puts.tells ∙ tells) small in
    let first = told_start after body.counts_at n slot_record (puts.tells ∙ tells) small ∙ before in
    let all = ring_fits m body sized is in
    record {
      becomes = ap (λ (l : List ℕ). newest_first size body.capacity l (start_told after body.counts_at)
          (number_told after body.counts_at)) (puts.becomes ∙ ap (λ (o : ℕ). overwrite bs o bytes) (at
          ∙ ap (λ (s : ℕ). s * size) before))
          ∙ ap₂ (newest_first size body.capacity
          (overwrite bs (slot_before body.start body.capacity * size) bytes)) first number
          ∙ newest_first-front size body.capacity bs body.start body.records bytes long all is.start n some most more
          ∙ ap (front n bytes) (sym (cyclic_is m body is));
      start = first;
      blocks = puts.blocks;
      only = puts.only;
    }

-- each number of a slot is below the capacity
pub slot_small : (m : List ℕ) (body : Cyclic) → IsCyclic m body → (a : ℕ) → a % body.capacity < body.capacity
slot_small m body is a = let some = is.slots.room in mod-lt a (let room : 0 < body.capacity = omega (arith, some) in
    room)

-- the bytes of the slot in which a record lies
pub record_read : (m : List ℕ) (body : Cyclic) (number : ℕ) → IsCyclic m body → 1 ≤ number → number ≤ body.records
    → record_of (cyclic_body_records m body) number
    ≡ take body.record_length (drop ((body.start + number - 1) % body.capacity * body.record_length)
    (chain_bytes m body.chain))
record_read m body number is some most =
    let size = body.record_length in
    let bs = chain_bytes m body.chain in
    let place : body.start + (number - 1) ≡ body.start + number - 1 = omega (arith, some) in
    let lt : number - 1 < body.records = omega (arith, some, most) in
    ap (λ (l : List (List ℕ)). record_of l number) (cyclic_is m body is)
    ∙ at-newest_first size body.capacity bs body.start body.records (number - 1) [] lt
    ∙ ap (λ (i : ℕ). slot_record size bs (i % body.capacity)) place
    ∙ slot-take size bs ((body.start + number - 1) % body.capacity)

-- the bytes that are read at that offset
pub record_at : (m : List ℕ) (body : Cyclic) (number : ℕ) → IsCyclic m body → 1 ≤ number → number ≤ body.records
    → (slot_record offset : ℕ) → slot_record ≡ (body.start + number - 1) % body.capacity
    → offset ≡ slot_record * body.record_length
    → take body.record_length (drop offset (chain_bytes m body.chain)) ≡ record_of (cyclic_body_records m body) number
record_at m body number is some most slot_record offset lies at =
    ap (λ (o : ℕ). take body.record_length (drop o (chain_bytes m body.chain)))
    (at ∙ ap (λ (s : ℕ). s * body.record_length) lies)
    ∙ sym (record_read m body number is some most)

-- a record has the length of a slot
pub length-record : (m : List ℕ) (body : Cyclic) (number : ℕ) → IsMemory m → IsCyclic m body → 1 ≤ number
    → number ≤ body.records → length (record_of (cyclic_body_records m body) number) ≡ body.record_length
length-record m body number sized is some most =
    let size = body.record_length in
    let place = (body.start + number - 1) % body.capacity in
    let w = slot-within size place body.capacity (slot_small m body is (body.start + number - 1)) in
    let all = ring_fits m body sized is in
    ap (λ (l : List ℕ). length l) (record_read m body number is some most ∙ sym (slot-take size (chain_bytes m
    body.chain) place))
    ∙ length-slot size (chain_bytes m body.chain) place (omega (arith, w, all))
