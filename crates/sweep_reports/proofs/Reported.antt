-- What is printed of a sweep, put together from its parts.
use Rattle.std.specs.Prelude.{◌≡◌, ◌⊎◌, ◌+◌, ◌-◌, ◌^◌, ℕ, suc, List, [], ◌∷◌, ◌++◌, codes, length, take, drop}
use Rattle.std.proofs.Common.{refl, sym, ◌∙◌, ap, subst, arith, append-nil}
use Rattle.nvm_board.specs.Facts.{Facts}
use Rattle.bench_turns.specs.declared.turn.Item.{Item}
use Rattle.bench_turns.specs.declared.turn.Turn.{Turn}
use Rattle.card_sweeps.specs.declared.turn_cuts.MadeWrite.{MadeWrite}
use Rattle.card_sweeps.specs.Masks.{mask_count_of, mask_of}
use Rattle.card_sweeps.specs.TurnCuts.{IsMade, LeavesMasked}
use Rattle.card_sweeps.specs.PartTexts.{IsOfPart}
use Rattle.sweep_reports.specs.declared.device_writes.DeviceWrite.{DeviceWrite}
use Rattle.sweep_reports.specs.DeviceWrites.{IsWriteKind, kinds_text, write_text}
use Rattle.sweep_reports.specs.ReportParts.{AddsText, AreRest}
use Rattle.sweep_reports.specs.Printing.{cut_head, last_item, look_text, looks_text, total_text}
use Rattle.sweep_reports.specs.Reporting.{AreOwnResults, AreResults, AreWrites, HasSections, IsCutText, IsFound}
use Rattle.sweep_reports.specs.Reporting.{IsWrite, LacksWrite, Sweeping, TextsInTurn, WritesInTurn}
use Rattle.sweep_reports.specs.declared.device_writes.WriteKind.{WriteKind}
use Rattle.sweep_reports.proofs.Put.{five-parts, puts-both, three-parts}

-- the same results, whose lines begin with a head that is said otherwise
pub results-under : {B : Type 0} (facts : B → Facts) (torn : B → ℕ) (looks head other : List ℕ) (depth : ℕ)
    (probe : List Turn) (board : Facts) (text : List ℕ) → head ≡ other
    → AreResults facts torn looks head depth probe board text
    → AreResults facts torn looks other depth probe board text
results-under facts torn looks head other depth probe board text same results =
    subst (λ (h : List ℕ). AreResults facts torn looks h depth probe board text) same results

-- a cut of another part
pub none-put : {B : Type 0} {facts : B → Facts} {torn : B → ℕ} (sweeping : Sweeping facts torn) (write i mask : ℕ)
    (board : Facts) (old : List ℕ) → (IsOfPart sweeping.part write i → ⊥)
    → AddsText (AreOwnResults sweeping write i mask board) old old
none-put sweeping write i mask board old other = record {
  more = [];
  holds = record { own = λ is. absurd (other is); other = λ _. refl };
  all = sym (append-nil old);
}

-- a cut of the part
pub own-put : {B : Type 0} {facts : B → Facts} {torn : B → ℕ} (sweeping : Sweeping facts torn) (write i mask : ℕ)
    (board : Facts) (head old new : List ℕ) → head ≡ cut_head write i mask → IsOfPart sweeping.part write i
    → AddsText (AreResults facts torn sweeping.looks head sweeping.depth sweeping.probe board) old new
    → AddsText (AreOwnResults sweeping write i mask board) old new
own-put {B} {facts} {torn} sweeping write i mask board head old new same own results = record {
  more = results.more;
  holds = record {
    own = λ _. results-under facts torn sweeping.looks head (cut_head write i mask) sweeping.depth sweeping.probe
        board results.more same results.holds;
    other = λ others. absurd (others own);
  };
  all = results.all;
}

-- the cut with this mask
pub cut-put : {B : Type 0} {facts : B → Facts} {torn : B → ℕ} (sweeping : Sweeping facts torn)
    (write : ℕ) (before : List ℕ) (made : MadeWrite B) (i mask : ℕ) (left : B) (old new : List ℕ)
    → mask ≡ mask_of made.words i → LeavesMasked facts sweeping.swept write before made i left
    → AddsText (AreOwnResults sweeping write i mask (facts left)) old new
    → AddsText (IsCutText sweeping write before made i) old new
cut-put {B} {facts} {torn} sweeping write before made i mask left old new same leaves results = record {
  more = results.more;
  holds = record {
    left = left;
    leaves = leaves;
    results = subst (λ (m : ℕ). AreOwnResults sweeping write i m (facts left) results.more) same results.holds;
  };
  all = results.all;
}

-- a device write, its kind, and its cuts
pub write-put : {B : Type 0} {facts : B → Facts} {torn : B → ℕ} (sweeping : Sweeping facts torn) (write : ℕ)
    (made : MadeWrite B) (kind : WriteKind) (before given first next old new : List ℕ)
    → given ≡ before → first ≡ before → next ≡ (facts made.after).words
    → IsMade facts torn sweeping.swept write given made
    → IsWriteKind made.words first next kind
    → AddsText (TextsInTurn (IsCutText sweeping write given made) (mask_count_of made.words)) old new
    → AddsText (IsWrite sweeping write before (facts made.after).words (record { words = made.words; kind = kind }))
    old new
write-put {B} {facts} {torn} sweeping write made kind before given first next old new same one two made_so is_kind
    texts =
    let after = (facts made.after).words in
    let kind_is : IsWriteKind made.words before after kind =
    subst (λ (m : List ℕ). IsWriteKind made.words m after kind) one
    (subst (λ (m : List ℕ). IsWriteKind made.words first m kind) two is_kind) in
    record {
      more = texts.more;
      holds = record {
        made = made;
        made_so = subst (λ (m : List ℕ). IsMade facts torn sweeping.swept write m made) same made_so;
        words_are = refl;
        after_is = refl;
        each = subst (λ (m : List ℕ). TextsInTurn (IsCutText sweeping write m made) (mask_count_of made.words)
            texts.more) same texts.holds;
        kind_is = kind_is;
      };
      all = texts.all;
    }

-- no device write yet
pub writes-none : {B : Type 0} {facts : B → Facts} {torn : B → ℕ} (sweeping : Sweeping facts torn)
    (first : List ℕ) (all : List DeviceWrite) (old : List ℕ) → all ≡ []
    → AddsText (WritesInTurn sweeping first 0 first all) old old
unfolding WritesInTurn
writes-none sweeping first all old is = record { more = []; holds = (refl, is, refl); all = sym (append-nil old) }

-- one device write more
pub writes-next : {B : Type 0} {facts : B → Facts} {torn : B → ℕ} (sweeping : Sweeping facts torn) (n : ℕ)
    (first between now : List ℕ) (earlier all : List DeviceWrite) (it : DeviceWrite) (old mid new : List ℕ)
    → AddsText (WritesInTurn sweeping first n between earlier) old mid
    → AddsText (IsWrite sweeping (n + 1) between now it) mid new → all ≡ earlier ++ it ∷ []
    → AddsText (WritesInTurn sweeping first (n + 1) now all) old new
unfolding WritesInTurn
writes-next sweeping n first between now earlier all it old mid new some next pushed =
    let more : AddsText (WritesInTurn sweeping first (suc n) now all) old new =
    puts-both (WritesInTurn sweeping first n between earlier) (IsWrite sweeping (n + 1) between now it)
    (WritesInTurn sweeping first (suc n) now all) old mid new
    (λ one two writes last. (between, earlier, it, one, two, writes, last, pushed, refl)) some next in
    let same : suc n ≡ n + 1 = omega arith in
    subst (λ (m : ℕ). AddsText (WritesInTurn sweeping first m now all) old new) same more

-- all device writes, up to the first that the command doesn't make
pub writes-end : {B : Type 0} {facts : B → Facts} {torn : B → ℕ} (sweeping : Sweeping facts torn) (n : ℕ)
    (first now last : List ℕ) (all : List DeviceWrite) (old mid new : List ℕ)
    → AddsText (WritesInTurn sweeping first n now all) old mid → length all ≡ n
    → (LacksWrite sweeping (n + 1) × (now ≡ last)) ⊎ (n ≡ 2 ^ 32 - 1) → new ≡ mid
    → AddsText (AreWrites sweeping first last all) old new
writes-end sweeping n first now last all old mid new some counted done same = record {
  more = some.more;
  holds = record {
    now = now;
    each = subst (λ (m : ℕ). WritesInTurn sweeping first m now all some.more) (sym counted) some.holds;
    done = subst (λ (m : ℕ). (LacksWrite sweeping (m + 1) × (now ≡ last)) ⊎ (m ≡ 2 ^ 32 - 1)) (sym counted) done;
  };
  all = same ∙ some.all;
}

-- the sections of a report, one after the other
pub sections-put : {B : Type 0} {facts : B → Facts} {torn : B → ℕ} (sweeping : Sweeping facts torn)
    (whole : List Turn) (prepared ended : Facts) (all shown : List DeviceWrite)
    (last none cuts given old one two new : List ℕ)
    → AddsText (IsFound sweeping (codes "before") sweeping.swept.prepare prepared) old one
    → AddsText (IsFound sweeping (codes "after") whole ended) one two
    → last ≡ ended.words → none ≡ [] → shown ≡ all → given ≡ cuts
    → AddsText (AreWrites sweeping prepared.words last all) none cuts
    → AddsText (AreRest sweeping shown given) two new → AddsText (HasSections sweeping whole) old new
sections-put sweeping whole prepared ended all shown last none cuts given old one two new before after ends empty
    are_all is_given writes shown_rest = let rest : AddsText (AreRest sweeping all cuts) two new =
    subst (λ (l : List ℕ). AddsText (AreRest sweeping all l) two new) is_given
    (subst (λ (l : List DeviceWrite). AddsText (AreRest sweeping l given) two new) are_all shown_rest) in record {
      more = before.more ++ after.more ++ rest.holds.kinds ++ writes.more ++ total_text (length all) sweeping.depth;
      holds = record {
        prepared = prepared;
        ended = ended;
        all = all;
        before = before.more;
        after = after.more;
        kinds = rest.holds.kinds;
        cuts = writes.more;
        is_before = before.holds;
        is_after = after.holds;
        are_kinds = rest.holds.are_kinds;
        are_cuts = subst (λ (m : List ℕ). AreWrites sweeping prepared.words m all writes.more) ends writes.holds;
        text_is = refl;
      };
      all =
          let total = total_text (length all) sweeping.depth in
          let are : cuts ≡ writes.more = writes.all ∙ ap (λ (l : List ℕ). l ++ writes.more) empty in
          let more : rest.more ≡ rest.holds.kinds ++ writes.more ++ total =
          rest.holds.text_is ∙ ap (λ (l : List ℕ). rest.holds.kinds ++ l ++ total) are in
          rest.all
          ∙ ap (λ (l : List ℕ). l ++ rest.more) (after.all ∙ ap (λ (l : List ℕ). l ++ after.more) before.all)
          ∙ ap (λ (l : List ℕ). old ++ before.more ++ after.more ++ l) more
          ∙ sym (three-parts (old ++ before.more ++ after.more) rest.holds.kinds writes.more total)
          ∙ five-parts old before.more after.more rest.holds.kinds writes.more total;
    }

-- the sections of a report that begins with them
pub sections-first : {B : Type 0} {facts : B → Facts} {torn : B → ℕ} (sweeping : Sweeping facts torn)
    (whole : List Turn) (old new : List ℕ) → old ≡ []
    → AddsText (HasSections sweeping whole) old new → HasSections sweeping whole new
sections-first sweeping whole old new none some =
    subst (HasSections sweeping whole) (sym (some.all ∙ ap (λ (l : List ℕ). l ++ some.more) none)) some.holds

-- the line of the next device write
pub kinds-next : (number : ℕ) (it : DeviceWrite) (later : List DeviceWrite)
    → kinds_text number (it ∷ later) ≡ write_text number it ++ kinds_text (number + 1) later
unfolding kinds_text
kinds-next number it later = refl

-- no line after the last device write
pub kinds-none : (number : ℕ) → kinds_text number [] ≡ []
unfolding kinds_text
kinds-none number = refl

-- the next line of the probe
pub looks-next : (size : ℕ) (sizes : List ℕ) (items : List Item) → looks_text (size ∷ sizes) items
    ≡ (codes ", \"" ++ (look_text (take size items) (last_item (take size items)) ++ codes "\""))
    ++ looks_text sizes (drop size items)
unfolding looks_text
looks-next size sizes items = refl

-- no line is left
pub looks-none : (items : List Item) → looks_text [] items ≡ []
unfolding looks_text
looks-none items = refl
