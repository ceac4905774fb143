-- The pages of the factory's memory, one by one, and writes of whole pages.
use Rattle.std.proofs.Common.{◌≡◌, ◌≢◌, ◌⊎◌, ◌<◌, ◌≤◌, ◌+◌, ◌==◌, ◌&&◌, ℕ, Bool, true, false, nat_lt, nat_le, List}
use Rattle.std.proofs.Common.{[], length, drop}
use Rattle.std.proofs.Common.{slice_index, refl, sym, ◌∙◌, ap, arith, inl, inr, ⊎_elim, if◌then◌else◌, length-take}
use Rattle.std.proofs.Common.{length-drop}
use Rattle.std.proofs.lemmas.Bool.{cases_lt, lt-ltb, lt-leb, le-leb, le-ltb, ne_eqb}
use Rattle.std.proofs.lemmas.Grind.{same_number_lists}
use Rattle.nvm_board.specs.Facts.{address}
use Rattle.nvm_board.specs.History.{written}
use Rattle.nvm_board.specs.laws.Torn.{length-written, written-elsewhere, written-inside}
use Rattle.block_chain.specs.BlockWords.{page_words}
use Rattle.block_chain.specs.laws.Words.{index-page_words, length-page_words}
use Rattle.card_start.specs.declared.memory_format.MemoryFormat.{MemoryFormat}
use Rattle.card_start.specs.declared.memory_format.MemoryFormat.TheVariants.{One, Two}
use Rattle.card_start.specs.Factory.{factory_page, factory_header, factory_master, factory_file, factory_block}
use Rattle.card_start.specs.Factory.{factory_free_block}
use Rattle.card_start.specs.Factory.{factory_pin_page, filled}

-- a page by the tests of its number
abbrev page_by : MemoryFormat → ℕ → Bool → Bool → Bool → Bool → Bool → Bool → ℕ → List ℕ
page_by format end header master file pin before first page =
    if header then factory_header format end else
    if master then factory_master else
    if file then factory_file else
    if pin then factory_pin_page format else
    if before then filled [] 0 else
    if first then factory_block else
    factory_free_block end page

pub length-header : (format : MemoryFormat) (end : ℕ) → length (factory_header format end) ≡ 16
length-header One end = refl
length-header Two end = refl

length-page_by : (format : MemoryFormat) (end : ℕ) (header master file pin before first : Bool) (page : ℕ)
    → length (page_by format end header master file pin before first page) ≡ 16
length-page_by format end true master file pin before first page = length-header format end
length-page_by format end false true file pin before first page = refl
length-page_by format end false false true pin before first page = refl
length-page_by format end false false false true before first page = refl
length-page_by format end false false false false true first page = refl
length-page_by format end false false false false false true page = refl
length-page_by format end false false false false false false page = refl

module _ (format : MemoryFormat) (end : ℕ) where
  -- a page has sixteen words
  pub length-factory_page : (page : ℕ) → length (factory_page format end page) ≡ 16
  length-factory_page page =
      length-page_by format end (page == 0) (page == 1) (page == 2) (nat_le 65 page && nat_lt page 73) (nat_lt page 128)
      (page == 128) page

  -- the pages between: of free entries, and of gate and journal; those of the PINs; those of free blocks
  pub blank_page : (page : ℕ) → 3 ≤ page → page < 128 → (page < 65) ⊎ (73 ≤ page)
      → factory_page format end page ≡ filled [] 0
  blank_page page low high outside =
      let a : (page == 0) ≡ false = ne_eqb page 0 (λ is. let z : ⊥ = omega (arith, is, low) in z) in
      let b : (page == 1) ≡ false = ne_eqb page 1 (λ is. let z : ⊥ = omega (arith, is, low) in z) in
      let c : (page == 2) ≡ false = ne_eqb page 2 (λ is. let z : ⊥ = omega (arith, is, low) in z) in
      let e : nat_lt page 128 ≡ true = lt-ltb page 128 high in
      ⊎_elim
      (λ (before : page < 65). let d : nat_le 65 page ≡ false = lt-leb 65 page before in
      (λ i. page_by format end (a i) (b i) (c i) (d i && nat_lt page 73) (e i) (page == 128) page))
      (λ (behind : 73 ≤ page).
      let d : nat_le 65 page ≡ true = le-leb 65 page (omega (arith, behind)) in
      let f : nat_lt page 73 ≡ false = le-ltb page 73 behind in
      (λ i. page_by format end (a i) (b i) (c i) (d i && f i) (e i) (page == 128) page))
      outside

  pub pin_page_is : (page : ℕ) → 65 ≤ page → page < 73 → factory_page format end page ≡ factory_pin_page format
  pin_page_is page low high =
      let a : (page == 0) ≡ false = ne_eqb page 0 (λ is. let z : ⊥ = omega (arith, is, low) in z) in
      let b : (page == 1) ≡ false = ne_eqb page 1 (λ is. let z : ⊥ = omega (arith, is, low) in z) in
      let c : (page == 2) ≡ false = ne_eqb page 2 (λ is. let z : ⊥ = omega (arith, is, low) in z) in
      let d : nat_le 65 page ≡ true = le-leb 65 page low in
      let e : nat_lt page 73 ≡ true = lt-ltb page 73 high in
      λ i. page_by format end (a i) (b i) (c i) (d i && e i) (nat_lt page 128) (page == 128) page

  pub free_block_is : (page : ℕ) → 128 < page → factory_page format end page ≡ factory_free_block end page
  free_block_is page low =
      let a : (page == 0) ≡ false = ne_eqb page 0 (λ is. let z : ⊥ = omega (arith, is, low) in z) in
      let b : (page == 1) ≡ false = ne_eqb page 1 (λ is. let z : ⊥ = omega (arith, is, low) in z) in
      let c : (page == 2) ≡ false = ne_eqb page 2 (λ is. let z : ⊥ = omega (arith, is, low) in z) in
      let d : nat_le 65 page ≡ true = le-leb 65 page (omega (arith, low)) in
      let e : nat_lt page 73 ≡ false = le-ltb page 73 (omega (arith, low)) in
      let f : nat_lt page 128 ≡ false = le-ltb page 128 (omega (arith, low)) in
      let g : (page == 128) ≡ false = ne_eqb page 128 (λ is. let z : ⊥ = omega (arith, is, low) in z) in
      λ i. page_by format end (a i) (b i) (c i) (d i && e i) (f i) (g i) page

-- two memories of one length have pages of one length, of at most 16 words
same_size : (m n : List ℕ) (page : ℕ) → length n ≡ length m → length (page_words n page) ≡ length (page_words m page)
unfolding page_words
same_size m n page same =
    let a = length-take 16 (drop (address page 0) n) in let b = length-take 16 (drop (address page 0) m) in
    let c = length-drop (address page 0) n in let d = length-drop (address page 0) m in
    omega (arith, same, a, b, c, d)

at_most : (m : List ℕ) (page : ℕ) → length (page_words m page) ≤ 16
unfolding page_words
at_most m page = let a = length-take 16 (drop (address page 0) m) in omega (arith, a)

-- another page stays
pub page_words-written_other : (m run : List ℕ) (page other : ℕ) → length run ≤ 16 → other ≢ page
    → page_words (written m (address page 0) run) other ≡ page_words m other
page_words-written_other m run page other fits apart =
    let size = same_size m (written m (address page 0) run) other (length-written m run (address page 0)) in
    same_number_lists _ _ size (λ k lt.
    let most = at_most m other in
    let place : k < 16 = omega (arith, lt, size, most) in
    let elsewhere : (address other k < address page 0) ⊎ (address page 0 + length run ≤ address other k) = ⊎_elim
    (λ (below : other < page). inl (let z : address other k < address page 0 = omega (arith, below, place) in z))
    (λ (above : page ≤ other). inr (let z : address page 0 + length run ≤ address other k =
    omega (arith, above, apart, fits) in z))
    (cases_lt other page) in
    index-page_words (written m (address page 0) run) other k place
    ∙ written-elsewhere m run (address page 0) (address other k) elsewhere ∙ sym (index-page_words m other k place))

-- the page that is written
pub page_words-written : (m run : List ℕ) (page : ℕ) → length run ≡ 16 → address page 16 ≤ length m
    → page_words (written m (address page 0) run) page ≡ run
page_words-written m run page whole within =
    let longer : address page 16 ≤ length (written m (address page 0) run) =
    let l = length-written m run (address page 0) in omega (arith, l, within) in
    let size = length-page_words (written m (address page 0) run) page longer in
    let fits : address page 0 + length run ≤ length m = omega (arith, whole, within) in
    same_number_lists _ _ (size ∙ sym whole) (λ k lt.
    let place : k < 16 = omega (arith, lt, size) in
    let inside : k < length run = omega (arith, place, whole) in
    let at : address page k ≡ address page 0 + k = omega arith in
    index-page_words (written m (address page 0) run) page k place
    ∙ ap (slice_index (written m (address page 0) run)) at ∙ written-inside m run (address page 0) k fits inside)
