-- The files of records that entries tell of.
use Rattle.std.proofs.Common.{◌≡◌, ◌≢◌, ◌⊎◌, ◌<◌, ◌≤◌, ◌+◌, ◌/◌, ◌%◌, ◌==◌, ◌&&◌, ℕ, Bool, true, false, not, nat_le}
use Rattle.std.proofs.Common.{List, [], ◌∷◌, ◌-◌, length, length-append, length-set, length-take, take, slice_index}
use Rattle.std.proofs.Common.{Some, None, if◌then◌else◌, sym, ◌∙◌, ap, arith, ⊎_elim}
use Rattle.std.proofs.Math.Nat.{mod-lt}
use Rattle.std.proofs.lemmas.Bool.{le-leb, leb-false}
use Rattle.nvm_board.specs.Facts.{IsMemory}
use Rattle.block_chain.specs.BlockWords.{page_words}
use Rattle.block_chain.specs.laws.Words.{index-page_words}
use Rattle.block_chain.specs.Chains.{chain_bytes, chain_of}
use Rattle.block_chain.specs.laws.Bytes.{leads_blocks, length-bytes_of}
use Rattle.card_model.specs.RecordLists.{record_of}
use Rattle.ef_body.specs.declared.cyclic.Cyclic.{Cyclic as Ring}
use Rattle.ef_body.specs.declared.slot.RecordSlot.{RecordSlot}
use Rattle.ef_body.specs.Bodies.{cyclic_body_records, number_told, start_told, IsCyclic}
use Rattle.ef_contents.specs.Records.{linear_order, newest_first}
use Rattle.ef_body.specs.laws.Lists.{at-newest_first, in_order-ring, length-newest_first}
use Rattle.ef_contents.specs.laws.Slots.{length-slot, slot-within}
use Rattle.file_tree.specs.declared.entry.Entry.{Entry}
use Rattle.card_model.specs.FileTrees.{Body, Kind, transparent, linear, cyclic, dedicated, elementary}
use Rattle.file_tree.specs.Entries.{file_of, free_entry, entry_capacity, name_of}
use Rattle.file_tree.specs.Entries.{linear_records as linear_of, cyclic_records as cyclic_of}
use Rattle.file_tree.specs.Table.{table, entry_in, IsRecordBody, IsUsed}
use Rattle.file_tree.specs.Trees.{content, file_in}
use Rattle.file_tree.specs.laws.Nodes.{used_small}
use Rattle.file_tree.specs.laws.Tables.{entry_in-table, entry_of-free, entry_of-used, length-table}
use Rattle.content_commands.specs.declared.record_file.RecordFile.{RecordFile}
use Rattle.card_model.specs.RecordCommands.{is_cyclic, is_linear, record_length, records_of, capacity_of as capacity_in}
use Rattle.command_base.specs.Standing.{IsCard}
use Rattle.content_commands.specs.RecordParts.{appended_in, has_in, is_full_in, record_file_in, replaced_in, ring_in}
use Rattle.content_commands.specs.RecordParts.{told_address}
use Rattle.command_base.specs.laws.Contents.{chain-is, content-is, fits-chain}

-- what a file of records and the kind that it is have in common
pub record Agree (m : List ℕ) (kind : Kind) (file : RecordFile) : Type 0 where
  pub order : is_cyclic kind ≡ file.wraps
  pub records : records_of kind ≡ cyclic_body_records m file.ring
  pub length_is : record_length kind ≡ file.ring.record_length
  pub capacity : capacity_in kind ≡ file.ring.capacity
  pub full : (is_linear kind && nat_le (capacity_in kind) (length (records_of kind))) ≡ is_full_in file
  pub number : length (records_of kind) ≡ file.ring.records
  pub stands : IsCyclic m file.ring

-- how many records a ring has, and at most 254
pub count-at : (m : List ℕ) (ring : Ring) → IsCyclic m ring → length (cyclic_body_records m ring) ≡ ring.records
count-at m ring is =
    let few = is.slots.few in
    let number = is.number in
    let start = is.start in
    let told = is.told in
    let count : number_told m ring.counts_at ≡ ring.records = omega (arith, few, number, start, told) in
    length-newest_first ring.record_length ring.capacity (chain_bytes m ring.chain) (start_told m ring.counts_at)
    (number_told m ring.counts_at)
    ∙ count

pub count-few : (m : List ℕ) (ring : Ring) → IsCyclic m ring → ring.records ≤ 254
count-few m ring is = let few = is.slots.few in let number = is.number in omega (arith, few, number)

-- the body of a file of records
abbrev pub body_with : Bool → ℕ → ℕ → List (List ℕ) → Body
body_with true long capacity records = cyclic long capacity records
body_with false long capacity records = linear long capacity records

module _ (m : List ℕ) (sized : IsMemory m) (words : IsCard m) (e : ℕ) (used : IsUsed (table m) e) where
  abbrev x : Entry
  x = entry_in (table m) e

  below : e < 64
  below = used_small m e used

  -- the word of the entry that tells of its records
  abbrev told : ℕ
  told = slice_index m (told_address e)

  told-is : (x.records ≡ told / 0x10000) × (x.start ≡ told % 0x10000)
  told-is =
      let page = entry_in-table m e below in
      let some : slice_index (page_words m (1 + e)) 0 ≢ 0 = λ none.
      used (ap (λ (y : Entry). y.kind) (page ∙ entry_of-free (page_words m (1 + e)) none)) in
      let is = page ∙ entry_of-used (page_words m (1 + e)) some in
      let at : slice_index (page_words m (1 + e)) 10 ≡ told = index-page_words m (1 + e) 10 (omega arith) in (
        ap (λ (y : Entry). y.records) is ∙ ap (λ (w : ℕ). w / 0x10000) at,
        ap (λ (y : Entry). y.start) is ∙ ap (λ (w : ℕ). w % 0x10000) at,
      )

  module _ (of_records : (x.kind ≡ 3) ⊎ (x.kind ≡ 4)) where
    pub rules : IsRecordBody x
    rules = ((words.tree.entries.each e free_entry (let l = length-table m in let lt = below in omega (
      arith,
      l,
      lt,
    ))).used
        used).body.records of_records

    pub high : 2 ≤ x.kind
    high = ⊎_elim (λ (is : x.kind ≡ 3). omega (arith, is)) (λ (is : x.kind ≡ 4). omega (arith, is)) of_records

    pub ring-stands : IsCyclic m (ring_in e x)
    ring-stands =
        let body = rules in
        let lt = below in
        let whole = body.multiple in
        let size = body.size in
        let fits = fits-chain m e sized words below high in
        let told_number = told-is.0 in
        let told_start = told-is.1 in
        record {
          slots = record {
            chain = chain-is m e sized words below high;
            some = body.some;
            short = body.record_length;
            room = body.room;
            few = body.capacity;
            small = omega (arith, whole, size);
            fits = omega (arith, whole, fits);
            entry = omega (arith, lt);
          };
          number = body.records;
          start = body.start;
          told = omega (arith, told_number, told_start);
        }

    abbrev records : List (List ℕ)
    records = cyclic_body_records m (ring_in e x)

    -- the kind of its file, by the kind of the entry
    abbrev kind_by : ℕ → Body → Kind
    kind_by k body =
        if k == 1 then dedicated (if x.name_length == 0 then None else Some (name_of x))
        else elementary (if x.short == 0 then None else Some x.short) body

    abbrev body_by : ℕ → List ℕ → Body
    body_by k bytes =
        if k == 2 then transparent (take x.size bytes) else
        if k == 3 then linear x.record_length (entry_capacity x) (linear_of x bytes) else
        cyclic x.record_length (entry_capacity x) (cyclic_of x bytes)

    by-entry : (k : ℕ) → x.kind ≡ k → (file_in m e).kind ≡ kind_by k (body_by k (content m x))
    unfolding file_of
    by-entry k is = ap (λ (j : ℕ). kind_by j (body_by j (content m x))) is

    linear-records : x.kind ≡ 3 → linear_of x (content m x) ≡ records
    unfolding linear_order
    linear-records three =
        let ring = ring_in e x in
        let bytes = content-is m e sized words below high in
        let number = told-is.0 in
        let straight = rules.linear three in
        let start = told-is.1 in
        let zero : start_told m ring.counts_at ≡ 0 = omega (arith, start, straight) in
        let most = rules.records in
        let few : number_told m ring.counts_at ≤ ring.capacity = omega (arith, number, most) in
        (λ i. linear_order x.record_length (bytes i) (number i))
        ∙ sym (in_order-ring ring.record_length ring.capacity (chain_bytes m ring.chain) (number_told m ring.counts_at)
        few)
        ∙ ap (λ (s : ℕ). newest_first ring.record_length ring.capacity (chain_bytes m ring.chain) s (number_told m
        ring.counts_at)) (sym zero)

    ring-records : cyclic_of x (content m x) ≡ records
    unfolding newest_first
    ring-records =
        let bytes = content-is m e sized words below high in
        let number = told-is.0 in
        let start = told-is.1 in
        λ i. newest_first x.record_length (entry_capacity x) (bytes i) (start i) (number i)

    pub kind-told : (file_in m e).kind ≡ elementary (if x.short == 0 then None else Some x.short)
        (body_with (x.kind == 4) x.record_length (entry_capacity x) records)
    kind-told = ⊎_elim
        (λ (three : x.kind ≡ 3).
        by-entry 3 three ∙ ap (λ (rs : List (List ℕ)). kind_by 3 (linear x.record_length (entry_capacity x) rs))
        (linear-records three)
        ∙ ap (λ (k : ℕ). kind_by 3 (body_with (k == 4) x.record_length (entry_capacity x) records)) (sym three))
        (λ (four : x.kind ≡ 4).
        by-entry 4 four ∙ ap (λ (rs : List (List ℕ)). kind_by 4 (cyclic x.record_length (entry_capacity x) rs))
        ring-records
        ∙ ap (λ (k : ℕ). kind_by 4 (body_with (k == 4) x.record_length (entry_capacity x) records)) (sym four))
        of_records

    abbrev kind_with : Bool → Kind
    kind_with wraps = elementary (if x.short == 0 then None else Some x.short)
        (body_with wraps x.record_length (entry_capacity x) records)

    -- what is said of a kind with these records, by the order of records
    by-order : (wraps : Bool) → (is_cyclic (kind_with wraps) ≡ wraps) × (records_of (kind_with wraps) ≡ records)
        × (record_length (kind_with wraps) ≡ x.record_length) × (capacity_in (kind_with wraps) ≡ entry_capacity x)
        × (is_linear (kind_with wraps) ≡ not wraps)
    by-order true = (λ i. true, λ i. records, λ i. x.record_length, λ i. entry_capacity x, λ i. false)
    by-order false = (λ i. false, λ i. records, λ i. x.record_length, λ i. entry_capacity x, λ i. true)

    pub file-agrees : Agree m (file_in m e).kind (record_file_in e x)
    file-agrees =
        let told = kind-told in
        let order = by-order (x.kind == 4) in
        let count = count-at m (ring_in e x) ring-stands in
        let records_are = ap records_of told ∙ order.1 in
        let capacity_is = ap capacity_in told ∙ order.3 in
        let linear_is = ap is_linear told ∙ order.4 in
        let number_is = ap (λ (rs : List (List ℕ)). length rs) records_are ∙ count in
        record {
          order = ap is_cyclic told ∙ order.0;
          records = records_are;
          length_is = ap record_length told ∙ order.2;
          capacity = capacity_is;
          full = λ i. linear_is i && nat_le (capacity_is i) (number_is i);
          number = number_is;
          stands = ring-stands;
        }

-- the record of a receipt is there, and its number is a byte
pub has-slot : (slot : RecordSlot) → has_in slot.ring slot.number ≡ true
has-slot slot = λ i. le-leb 1 slot.number slot.from_first i && le-leb slot.number slot.ring.records slot.to_last i

pub slot-few : (m : List ℕ) (slot : RecordSlot) → IsCyclic m slot.ring → slot.number ≤ 254
slot-few m slot is =
    let few = count-few m slot.ring is in let last = slot.to_last in omega (arith, few, last)

-- its bytes are as many as those of each slot
pub slot-long : (m : List ℕ) (slot : RecordSlot) → IsMemory m → IsCyclic m slot.ring
    → length (record_of (cyclic_body_records m slot.ring) slot.number) ≡ slot.ring.record_length
slot-long m slot sized is =
    let ring = slot.ring in
    let size = ring.record_length in
    let bytes = chain_bytes m ring.chain in
    let start = start_told m ring.counts_at in
    let number = number_told m ring.counts_at in
    let few = is.slots.few in
    let room = is.slots.room in
    let most = is.number in
    let first = is.start in
    let told = is.told in
    let from = slot.from_first in
    let to = slot.to_last in
    let there : slot.number - 1 < number = omega (arith, few, most, first, told, from, to) in
    let place = (start + (slot.number - 1)) % ring.capacity in
    let small : place < ring.capacity = mod-lt (start + (slot.number - 1)) (omega (arith, room)) in
    let long = length-bytes_of m (chain_of m ring.chain) sized
    (leads_blocks m ring.chain.first 0 (chain_of m ring.chain) is.slots.chain.leads) in
    let within = slot-within size place ring.capacity small in
    let fits = is.slots.fits in
    ap (λ (l : List ℕ). length l) (at-newest_first size ring.capacity bytes start number (slot.number - 1) [] there)
    ∙ length-slot size bytes place (omega (arith, long, within, fits))

-- as many records as there is room for
pub replaced-fits : (m : List ℕ) (ring : Ring) → IsCyclic m ring → (wraps : Bool) (n : ℕ) (bytes : List ℕ)
    → length (replaced_in wraps (cyclic_body_records m ring) n bytes) ≤ ring.capacity
replaced-fits m ring is true n bytes =
    let count = count-at m ring is in
    let number = is.number in
    let some = length-take (length (cyclic_body_records m ring)) (bytes ∷ cyclic_body_records m ring) in
    omega (arith, count, number, some)
replaced-fits m ring is false n bytes =
    let count = count-at m ring is in
    let number = is.number in
    let same = length-set (cyclic_body_records m ring) (n - 1) bytes in
    omega (arith, count, number, same)

pub appended-fits : (m : List ℕ) (ring : Ring) → IsCyclic m ring → (wraps : Bool)
    → (not wraps && nat_le ring.capacity ring.records) ≡ false → (bytes : List ℕ)
    → length (appended_in wraps ring.capacity (cyclic_body_records m ring) bytes) ≤ ring.capacity
appended-fits m ring is true room bytes =
    let some = length-take ring.capacity (bytes ∷ cyclic_body_records m ring) in
    omega (arith, some)
appended-fits m ring is false room bytes =
    let count = count-at m ring is in
    let less = leb-false ring.capacity ring.records room in
    let more = length-append (cyclic_body_records m ring) (bytes ∷ []) in
    omega (arith, count, less, more)
