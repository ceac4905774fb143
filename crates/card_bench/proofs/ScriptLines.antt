-- The lines of a script, as they are read one by one.
use Rattle.std.proofs.Common.{◌≡◌, ◌⊎◌, ◌≤◌, ◌+◌, ◌==◌, IfSome, ℕ, Bool, false, true≢false, cond, codes, List, [], ◌∷◌}
use Rattle.std.proofs.Common.{◌++◌, length, take, Option, Some, None, is_some, refl, sym, ◌∙◌, ap, subst, inl, inr}
use Rattle.std.proofs.Common.{arith, append_assoc, append-nil, length-append, if◌then◌else◌}
use Rattle.std.proofs.KnownBytes.{Appends-nil, Appends-trans}
use Rattle.std.specs.Io.KnownBytes.{Appends}
use Rattle.std.specs.Fmt.{decimal}
use Rattle.std.specs.Str.Lines.{lines, strip_carriage_return}
use Rattle.std.proofs.lemmas.Bool.{ne_eqb}
use Rattle.hex.specs.Hex.{encode_upper}
use Rattle.bench_lines.specs.declared.reading.TheConstants.{SCRIPT_LIMIT}
use Rattle.bench_lines.specs.declared.reading.LineEnd.{LineEnd}
use Rattle.bench_lines.specs.declared.reading.LineEnd.TheVariants.{LineFeed, EndOfScript}
use Rattle.bench_lines.specs.Orders.{Nothing, Order, order_of}
use Rattle.bench_lines.specs.Scripts.{
  AreOrders,
  CountsTaken,
  FailsAtLine,
  IsInLine,
  TakesInto,
  TakesLine,
  TakesTooMuch,
}
use Rattle.bench_lines.specs.Scripts.{WhereKnown}
use Rattle.nvm_board.specs.Facts.{Facts}
use Rattle.bench_turns.specs.BenchStates.{bench_facts}
use Rattle.card_bench.specs.ScriptEndings.{IsRunBefore, StopsUncharged, StopsUnkept}
use Rattle.bench_lines.specs.laws.TextLines.{IsLong, lines-last, lines-line, lines-long, order_of-empty, order_of-long}
use Rattle.bench_lines.specs.laws.TextLines.{order_of-none, orders-more, strip-within}
use Rattle.card_bench.specs.ScriptEndings.{HasWritten, IsReadInto, IsRunInto, IsRunToEnd, IsRunToLine, IsRunUnkept}
use Rattle.card_bench.specs.Exchanges.{Desk}
use Rattle.card_bench.specs.Charges.{AnyFacts, IsUncharged, MayCompare, RunsLine}
use Rattle.card_bench.specs.Performing.{Performs}
use Rattle.bench_turns.specs.Plays.{IsGood}
use Rattle.bench_lines.specs.Printouts.{Print, text_of}
use Rattle.bench_lines.specs.Printouts as print
use Rattle.card_bench.specs.Prints.{LinesPrint, PrintsLines}

-- it prints nothing
silent : (Stored Kept : Facts → Type 0) (order : Order) (prints : Print) (desk desk' : Desk)
    → order_of [] ≡ Some order → RunsLine Stored Kept order desk desk' prints → text_of prints ≡ []
silent Stored Kept order prints desk desk' good ran =
    let nothing : order ≡ Nothing = let some = sym good ∙ order_of-none in cc in
    let does : Performs Nothing ran.charged desk' prints =
    subst (λ (o : Order). Performs o ran.charged desk' prints) nothing ran.performs in
    ap text_of does.1

some_bytes : (b : ℕ) (l : List ℕ) → (length (b ∷ l) == 0) ≡ false
some_bytes b l = ne_eqb (length (b ∷ l)) 0 (λ none. let z : ⊥ = omega arith in z)

-- one more line is carried out
prints_more : (Keeps : Facts → Type 0) (old between new : Desk) (some : List (List ℕ)) (out line : List ℕ)
    (order : Order) (prints : Print) → PrintsLines Keeps Keeps old some between out → order_of line ≡ Some order
    → RunsLine Keeps Keeps order between new prints
    → IsGood new.bench → PrintsLines Keeps Keeps old (some ++ line ∷ []) new (out ++ text_of prints)
unfolding PrintsLines
prints_more Keeps old between new [] out line order prints all is one well = (
  order,
  new,
  prints,
  [],
  is,
  subst (λ (d : Desk). RunsLine Keeps Keeps order d new prints) all.0 one,
  well,
  (refl, refl),
  ap (λ (l : List ℕ). l ++ text_of prints) all.1 ∙ sym (append-nil (text_of prints)),
)
prints_more Keeps old between new (l ∷ some) out line order prints all is one well = (
  all.0,
  all.1,
  all.2,
  all.3 ++ text_of prints,
  all.4,
  all.5,
  all.6,
  prints_more Keeps all.1 between new some all.3 line order prints all.7 is one well,
  ap (λ (l : List ℕ). l ++ text_of prints) all.8 ∙ append_assoc (text_of all.2) all.3 (text_of prints),
)

-- no line yet
prints_none : (Keeps : Facts → Type 0) (desk : Desk) → PrintsLines Keeps Keeps desk [] desk []
unfolding PrintsLines
prints_none Keeps desk = (refl, refl)

-- The script up to here: its lines so far all ask for something, their bytes were counted, and they were carried out.
pub record Runs (Keeps : Facts → Type 0) (first : Desk) (script rest : List ℕ) (n taken : ℕ) (desk : Desk) (out : List
    ℕ) : Type 0 where
  pub front : List ℕ
  pub done : List (List ℕ)
  pub split : script ≡ front ++ rest
  pub ended : (front ≡ []) ⊎ ((some : List ℕ) × (front ≡ some ++ 10 ∷ []))
  pub goes : (more : List ℕ) → lines (front ++ more) ≡ done ++ lines more
  pub number : length done ≡ n
  pub orders : AreOrders done
  pub size : length front ≡ taken
  pub prints : PrintsLines Keeps Keeps first done desk out

-- the same, where the reader and the writer tell their bytes
abbrev pub HasRun : (Facts → Type 0) → Desk → Option (List ℕ) → Option (List ℕ) → ℕ → ℕ → Desk → Option (List ℕ)
    → Option (List ℕ) → Type 0
HasRun Keeps first None now n taken desk held holds = Unit {0}
HasRun Keeps first (Some script) None n taken desk held holds = ⊥
HasRun Keeps first (Some script) (Some rest) n taken desk held holds = (out : List ℕ)
    × Runs Keeps first script rest n taken desk out
    × Appends held holds out

-- nothing was read yet
pub begins_run : (Keeps : Facts → Type 0) (script : Option (List ℕ)) (desk : Desk) (held : Option (List ℕ))
    → HasRun Keeps desk script script 0 0 desk held held
begins_run Keeps None desk held = tt
begins_run Keeps (Some script) desk held = (
  [],
  record {
    front = [];
    done = [];
    split = refl;
    ended = inl refl;
    goes = λ more. refl;
    number = refl;
    orders = refl;
    size = refl;
    prints = prints_none Keeps desk;
  },
  Appends-nil held,
)

-- some lines print this
pub printed : (Keeps : Facts → Type 0) (first : Desk) (script rest : List ℕ) (n taken : ℕ) (desk : Desk) (out : List ℕ)
    (run : Runs Keeps first script rest n taken desk out) → LinesPrint Keeps first run.done out
printed Keeps first script rest n taken desk out run = record { last = desk; all = run.prints }

-- one more line, that ends with a line feed
module _ (Keeps : Facts → Type 0) (first : Desk) (script rest rest' line : List ℕ) (n taken taken' : ℕ) (desk : Desk)
    (out : List ℕ)
    (run : Runs Keeps first script rest n taken desk out) where
  all_lines : lines script ≡ run.done ++ lines rest
  all_lines = ap lines run.split ∙ run.goes rest

  module _ (bytes : List ℕ) (is : rest ≡ (bytes ++ 10 ∷ []) ++ rest') (inside : IsInLine bytes)
      (stripped : line ≡ strip_carriage_return bytes) where
    fed : (more : List ℕ) → lines ((run.front ++ (bytes ++ 10 ∷ [])) ++ more) ≡ (run.done ++ line ∷ []) ++ lines more
    fed more =
        ap lines (append_assoc run.front (bytes ++ 10 ∷ []) more
        ∙ ap (λ (l : List ℕ). run.front ++ l) (append_assoc bytes (10 ∷ []) more))
        ∙ run.goes (bytes ++ 10 ∷ more) ∙ ap (λ (ls : List (List ℕ)). run.done ++ ls) (lines-line bytes more inside)
        ∙ ap (λ (l : List ℕ). run.done ++ l ∷ lines more) (sym stripped)
        ∙ sym (append_assoc run.done (line ∷ []) (lines more))

    split_on : script ≡ (run.front ++ (bytes ++ 10 ∷ [])) ++ rest'
    split_on = run.split ∙ ap (λ (l : List ℕ). run.front ++ l) is
        ∙ sym (append_assoc run.front (bytes ++ 10 ∷ []) rest')

    size_on : length rest + taken ≡ length rest' + taken' → length (run.front ++ (bytes ++ 10 ∷ [])) ≡ taken'
    size_on counted =
        let a = length-append run.front (bytes ++ 10 ∷ []) in
        let b : length rest ≡ length (bytes ++ 10 ∷ []) + length rest' = ap length is
        ∙ length-append (bytes ++ 10 ∷ []) rest' in
        let s = run.size in
        omega (arith, a, b, s, counted)

    next : (desk' : Desk) (order : Order) (prints : Print) → length rest + taken ≡ length rest' + taken'
        → order_of line ≡ Some order → RunsLine Keeps Keeps order desk desk' prints → IsGood desk'.bench
        → Runs Keeps first script rest' (n + 1) taken' desk' (out ++ text_of prints)
    next desk' order prints counted good performs well = record {
      front = run.front ++ (bytes ++ 10 ∷ []);
      done = run.done ++ line ∷ [];
      split = split_on;
      ended = inr (run.front ++ bytes, sym (append_assoc run.front bytes (10 ∷ [])));
      goes = fed;
      number = let sum = length-append run.done (line ∷ []) in let is_n = run.number in omega (arith, sum, is_n);
      orders = orders-more run.done line run.orders (ap is_some good);
      size = size_on counted;
      prints = prints_more Keeps first desk desk' run.done out line order prints run.prints good performs well;
    }

    fed_rest : lines script ≡ (run.done ++ line ∷ []) ++ lines rest'
    fed_rest = ap lines split_on ∙ fed rest'

    -- it asks for nothing that is known
    fed_fails : length rest + taken ≡ length rest' + taken' → taken' ≤ SCRIPT_LIMIT → order_of line ≡ None
        → FailsAtLine script (n + 1)
    fed_fails counted within bad = record {
      before = run.done;
      line = line;
      after = lines rest';
      all = fed_rest ∙ append_assoc run.done (line ∷ []) (lines rest');
      number = ap (λ (k : ℕ). k + 1) run.number;
      orders = run.orders;
      bad = bad;
      seen = run.front ++ (bytes ++ 10 ∷ []);
      rest = rest';
      parts = split_on;
      shows = (
        line,
        ap lines (sym (append-nil (run.front ++ (bytes ++ 10 ∷ [])))) ∙ fed [] ∙ append-nil (run.done ++ line ∷ []),
        inl (inl (run.front ++ bytes, sym (append_assoc run.front bytes (10 ∷ []))), bad),
      );
      within = let s = size_on counted in omega (arith, s, within);
    }

  -- the last line, without a line feed
  module _ (is : rest ≡ line ++ rest') (none : rest' ≡ []) (inside : IsInLine line) where
    rest_is : rest ≡ line
    rest_is = is ∙ ap (λ (bytes : List ℕ). line ++ bytes) none ∙ append-nil line

    last_lines : lines script ≡ run.done ++ (if length line == 0 then [] else line ∷ [])
    last_lines = all_lines ∙ ap (λ (ls : List (List ℕ)). run.done ++ ls) (ap lines rest_is ∙ lines-last line inside)

    last_size : length rest + taken ≡ length rest' + taken' → taken' ≤ SCRIPT_LIMIT → length script ≤ SCRIPT_LIMIT
    last_size counted within =
        let sum : length script ≡ length run.front + length rest = ap length run.split ∙ length-append run.front rest
        in
        let s = run.size in
        let empty = ap length none in
        omega (arith, s, sum, counted, empty, within)

    last_fails : length rest + taken ≡ length rest' + taken' → taken' ≤ SCRIPT_LIMIT → order_of line ≡ None
        → FailsAtLine script (n + 1)
    last_fails counted within bad = record {
      before = run.done;
      line = line;
      after = [];
      all = last_lines ∙ ap (λ (ls : List (List ℕ)). run.done ++ ls) (only line bad);
      number = ap (λ (k : ℕ). k + 1) run.number;
      orders = run.orders;
      bad = bad;
      seen = script;
      rest = [];
      parts = sym (append-nil script);
      shows = (line, last_lines ∙ ap (λ (ls : List (List ℕ)). run.done ++ ls) (only line bad), inl (inr refl, bad));
      within = last_size counted within;
    }
      where
        only : (l : List ℕ) → order_of l ≡ None → (if length l == 0 then [] else l ∷ []) ≡ l ∷ []
        only [] none = absurd (true≢false (sym order_of-empty ∙ ap is_some none))
        only (b ∷ l) none = ap (λ (e : Bool). cond e [] ((b ∷ l) ∷ [])) (some_bytes b l)

-- a line that ends with a line feed
pub goes_on : (Keeps : Facts → Type 0) (first : Desk) (script old new : Option (List ℕ)) (n taken taken' : ℕ) (line :
    List ℕ) (desk desk' : Desk)
    (held before holds : Option (List ℕ)) (order : Order) (prints : Print)
    → HasRun Keeps first script old n taken desk held before
    → TakesLine old new line LineFeed
    → CountsTaken old new taken taken' → order_of line ≡ Some order → RunsLine Keeps Keeps order desk desk' prints
    → IsGood desk'.bench → Appends before holds (text_of prints)
    → HasRun Keeps first script new (n + 1) taken' desk' held holds
goes_on Keeps first None old new n taken taken' line desk desk' held before holds order prints run takes counted good
    performs well wrote = tt
goes_on Keeps first (Some script) None new n taken taken' line desk desk' held before holds order prints run takes
    counted
    good performs well wrote = absurd run
goes_on Keeps first (Some script) (Some rest) None n taken taken' line desk desk' held before holds order prints run
    takes
    counted good performs well wrote = absurd counted
goes_on Keeps first (Some script) (Some rest) (Some rest') n taken taken' line desk desk' held before holds order
    prints run
    takes counted good performs well wrote = (
      run.0 ++ text_of prints,
      next Keeps first script rest rest' line n taken taken' desk run.0 run.1 takes.0 takes.1 takes.2 takes.3 desk'
          order
          prints counted good performs well,
      Appends-trans held before holds run.0 (text_of prints) run.2 wrote,
    )

-- the last line: what it prints is written
whole : (Keeps : Facts → Type 0) (first : Desk) (script rest rest' line : List ℕ) (n taken taken' : ℕ) (desk desk' :
    Desk) (out : List ℕ)
    (run : Runs Keeps first script rest n taken desk out) (held before holds : Option (List ℕ)) (order : Order)
    (prints : Print)
    → rest ≡ line ++ rest' → rest' ≡ [] → IsInLine line
    → Appends held before out → order_of line ≡ Some order → RunsLine Keeps Keeps order desk desk' prints
    → IsGood desk'.bench
    → Appends before holds (text_of prints) → AreOrders (lines script) × HasWritten Keeps first held (lines script)
    holds
whole Keeps first script rest rest' [] n taken taken' desk desk' out run held before holds order prints is none inside
    held_out good performs well wrote =
    let all : lines script ≡ run.done = last_lines Keeps first script rest rest' [] n taken taken' desk out run is
    none inside
    ∙ append-nil run.done in (
      subst AreOrders (sym all) run.orders,
      (
        out,
        subst (λ (ls : List (List ℕ)). LinesPrint Keeps first ls out) (sym all)
            (printed Keeps first script rest n taken desk out run),
        subst (Appends held holds) (ap (λ (l : List ℕ). out ++ l) (silent Keeps Keeps order prints desk desk' good
            performs)
            ∙ append-nil out) (Appends-trans held before holds out (text_of prints) held_out wrote),
      ),
    )
whole Keeps first script rest rest' (b ∷ l) n taken taken' desk desk' out run held before holds order prints is none
    inside
    held_out good performs well wrote =
    let all : lines script ≡ run.done ++ (b ∷ l) ∷ [] =
    last_lines Keeps first script rest rest' (b ∷ l) n taken taken' desk out run is none inside
    ∙ ap (λ (e : Bool). run.done ++ cond e [] ((b ∷ l) ∷ [])) (some_bytes b l) in (
      subst AreOrders (sym all) (orders-more run.done (b ∷ l) run.orders (ap is_some good)),
      (
        out ++ text_of prints,
        subst (λ (ls : List (List ℕ)). LinesPrint Keeps first ls (out ++ text_of prints)) (sym all) (record {
          last = desk';
          all = prints_more Keeps first desk desk' run.done out (b ∷ l) order prints run.prints good performs well;
        }),
        Appends-trans held before holds out (text_of prints) held_out wrote,
      ),
    )

pub is_done : (Keeps : Facts → Type 0) (first : Desk) (script old new : Option (List ℕ)) (n taken taken' : ℕ) (line :
    List ℕ) (desk desk' : Desk)
    (held before holds : Option (List ℕ)) (order : Order) (prints : Print)
    → HasRun Keeps first script old n taken desk held before
    → TakesLine old new line EndOfScript
    → CountsTaken old new taken taken' → taken' ≤ SCRIPT_LIMIT → order_of line ≡ Some order
    → RunsLine Keeps Keeps order desk desk' prints → IsGood desk'.bench → Appends before holds (text_of prints)
    → IfSome script (λ bytes. IsRunToEnd Keeps first bytes held holds)
is_done Keeps first None old new n taken taken' line desk desk' held before holds order prints run takes counted
    within good
    performs well wrote = tt
is_done Keeps first (Some script) None new n taken taken' line desk desk' held before holds order prints run takes
    counted
    within good performs well wrote = absurd run
is_done Keeps first (Some script) (Some rest) None n taken taken' line desk desk' held before holds order prints run
    takes
    counted within good performs well wrote =
    absurd counted
is_done Keeps first (Some script) (Some rest) (Some rest') n taken taken' line desk desk' held before holds order
    prints run
    takes counted within good performs well wrote =
    let all = whole Keeps first script rest rest' line n taken taken' desk desk' run.0 run.1 held before holds
    order prints takes.0 takes.1 takes.2 run.2 good performs well wrote in
    record {
      good = record {
        orders = all.0;
        size = last_size Keeps first script rest rest' line n taken taken' desk run.0 run.1 takes.0 takes.1 takes.2
            counted
            within;
      };
      written = all.1;
    }

-- a bad line
pub is_bad : (Keeps : Facts → Type 0) (first : Desk) (script old new : Option (List ℕ)) (n taken taken' : ℕ) (line :
    List ℕ) (end : LineEnd)
    (desk : Desk)
    (held holds : Option (List ℕ)) → HasRun Keeps first script old n taken desk held holds → TakesLine old new line end
    → CountsTaken old new taken taken' → taken' ≤ SCRIPT_LIMIT
    → order_of line ≡ None → IfSome script (λ bytes. IsRunToLine Keeps first (n + 1) bytes held holds)
unfolding fed_fails last_fails
is_bad Keeps first None old new n taken taken' line end desk held holds run takes counted within bad = tt
is_bad Keeps first (Some script) None new n taken taken' line end desk held holds run takes counted within bad =
    absurd run
is_bad Keeps first (Some script) (Some rest) None n taken taken' line end desk held holds run takes counted
    within bad = absurd counted
is_bad Keeps first (Some script) (Some rest) (Some rest') n taken taken' line LineFeed desk held holds run takes
    counted within bad = record {
      fails = fed_fails Keeps first script rest rest' line n taken taken' desk run.0 run.1 takes.0 takes.1 takes.2
          takes.3 counted within bad;
      written = (run.0, printed Keeps first script rest n taken desk run.0 run.1, run.2);
    }
is_bad Keeps first (Some script) (Some rest) (Some rest') n taken taken' line EndOfScript desk held holds run takes
    counted within bad = record {
      fails = last_fails Keeps first script rest rest' line n taken taken' desk run.0 run.1 takes.0 takes.1
          takes.2 counted within bad;
      written = (run.0, printed Keeps first script rest n taken desk run.0 run.1, run.2);
    }

-- a line of too many bytes
pub is_too_long : (Keeps : Facts → Type 0) (first : Desk) (script old new : Option (List ℕ)) (n taken taken' : ℕ)
    (desk : Desk)
    (held holds : Option (List ℕ))
    → HasRun Keeps first script old n taken desk held holds → TakesTooMuch old new taken taken' → taken' ≤ SCRIPT_LIMIT
    → IfSome script (λ bytes. IsRunToLine Keeps first (n + 1) bytes held holds)
is_too_long Keeps first None old new n taken taken' desk held holds run takes within = tt
is_too_long Keeps first (Some script) None new n taken taken' desk held holds run takes within = absurd run
is_too_long Keeps first (Some script) (Some rest) None n taken taken' desk held holds run takes within = absurd takes.1
is_too_long Keeps first (Some script) (Some rest) (Some rest') n taken taken' desk held holds run takes within =
    record {
      fails = record {
        before = run.1.done;
        line = long.0;
        after = long.1;
        all = ap lines run.1.split ∙ run.1.goes rest
            ∙ ap (λ (ls : List (List ℕ)). run.1.done ++ ls) (ap lines takes.1 ∙ long.2);
        number = ap (λ (k : ℕ). k + 1) run.1.number;
        orders = run.1.orders;
        bad = order_of-long long.0 long.3;
        seen = run.1.front ++ takes.0;
        rest = rest';
        parts =
            run.1.split ∙ ap (λ (l : List ℕ). run.1.front ++ l) takes.1
            ∙ sym (append_assoc run.1.front takes.0 rest');
        shows = (takes.0, run.1.goes takes.0 ∙ ap (λ (ls : List (List ℕ)). run.1.done ++ ls) only, inr takes.3);
        within =
            let sum = length-append run.1.front takes.0 in
            let size = run.1.size in
            let parts : length rest ≡ length takes.0 + length rest' =
            ap length takes.1 ∙ length-append takes.0 rest' in
            let counted = takes.4 in
            omega (arith, sum, size, parts, counted, within);
      };
      written = (run.0, printed Keeps first script rest n taken desk run.0 run.1, run.2);
    }
  where
    long : IsLong (lines (takes.0 ++ rest'))
    long = lines-long takes.0 rest' takes.2 takes.3

    only : lines takes.0 ≡ takes.0 ∷ []
    only =
        let whole = strip-within takes.0 in
        let long = takes.3 in
        let some : (length takes.0 == 0) ≡ false =
        ne_eqb (length takes.0) 0 (λ none. let z : ⊥ = omega (arith, whole, long, none) in z) in
        lines-last takes.0 takes.2 ∙ ap (λ (b : Bool). cond b [] (takes.0 ∷ [])) some

-- the bytes of the lines so far
front_lines : (Keeps : Facts → Type 0) (first : Desk) (script rest : List ℕ) (n taken : ℕ) (desk : Desk) (out : List ℕ)
    (run : Runs Keeps first script rest n taken desk out) → lines run.front ≡ run.done
front_lines Keeps first script rest n taken desk out run = ap lines (sym (append-nil run.front)) ∙ run.goes []
    ∙ append-nil run.done

-- no more is read
pub is_unread : (Keeps : Facts → Type 0) (first : Desk) (script old new : Option (List ℕ)) (n taken taken' : ℕ) (desk
    : Desk)
    (held holds : Option (List ℕ))
    → HasRun Keeps first script old n taken desk held holds → TakesInto old new taken taken' → taken' ≤ SCRIPT_LIMIT
    → WhereKnown script new (λ bytes left. IsReadInto Keeps first bytes left held holds)
is_unread Keeps first None old new n taken taken' desk held holds run takes most = tt
is_unread Keeps first (Some script) None new n taken taken' desk held holds run takes most = absurd run
is_unread Keeps first (Some script) (Some rest) None n taken taken' desk held holds run takes most = absurd takes.1
is_unread Keeps first (Some script) (Some rest) (Some rest') n taken taken' desk held holds run takes most = record {
  front = run.1.front;
  begun = takes.0;
  parts = run.1.split ∙ ap (λ (l : List ℕ). run.1.front ++ l) takes.1 ∙ sym (append_assoc run.1.front takes.0 rest');
  ended = run.1.ended;
  inside = takes.2;
  short = takes.3;
  within =
      let sum = length-append run.1.front takes.0 in
      let size = run.1.size in
      let parts : length rest ≡ length takes.0 + length rest' = ap length takes.1 ∙ length-append takes.0 rest' in
      let counted = takes.4 in
      omega (arith, sum, size, parts, counted, most);
  written = (
    run.0,
    subst (λ (ls : List (List ℕ)). LinesPrint Keeps first ls run.0)
        (sym (front_lines Keeps first script rest n taken desk run.0 run.1))
        (printed Keeps first script rest n taken desk run.0 run.1),
    run.2,
  );
}

-- what is told of a card is some text
some_text : (text : List ℕ) → text ++ 10 ∷ [] ≡ [] → ⊥
some_text [] none = absurd cc
some_text (b ∷ text) none = absurd cc

pub speaks : (prints : Print) → (prints ≡ print.prints_nothing → ⊥) → text_of prints ≡ [] → ⊥
speaks print.prints_nothing other none = other refl
speaks print.prints_atr other none = some_text (codes "atr 3B808131FE458B") none
speaks print.prints_mute other none = some_text (codes "mute") none
speaks print.prints_dark other none = some_text (codes "dark") none
speaks print.prints_lost other none = some_text (codes "lost") none
speaks (print.prints_bytes bytes) other none = some_text (codes "< " ++ encode_upper bytes) none
speaks (print.prints_free free) other none =
    some_text (codes "free " ++ decimal free.blocks ++ 32 ∷ decimal free.entries) none

-- one line
prints_one : (Stored Kept : Facts → Type 0) (old new : Desk) (line : List ℕ) (order : Order) (prints : Print)
    → order_of line ≡ Some order → RunsLine Stored Kept order old new prints → IsGood new.bench
    → PrintsLines Stored Kept old (line ∷ []) new (text_of prints)
unfolding PrintsLines
prints_one Stored Kept old new line order prints is one well =
    (order, new, prints, [], is, one, well, (refl, refl), sym (append-nil (text_of prints)))

-- the writer fails
pub is_unwritten : (Keeps Last : Facts → Type 0) (first : Desk) (script old new : Option (List ℕ)) (n taken taken' :
    ℕ) (line : List ℕ)
    (end : LineEnd) (desk desk' : Desk) (held before holds : Option (List ℕ)) (order : Order) (prints : Print)
    → HasRun Keeps first script old n taken desk held before → TakesLine old new line end
    → CountsTaken old new taken taken'
    → taken' ≤ SCRIPT_LIMIT → order_of line ≡ Some order → RunsLine Keeps Last order desk desk' prints
    → IsGood desk'.bench → (text_of prints ≡ [] → ⊥) → (size : ℕ) × Appends before holds (take size (text_of prints))
    → WhereKnown script new (λ bytes left. IsRunInto Keeps Last first bytes left held holds)
is_unwritten Keeps Last first None old new n taken taken' line end desk desk' held before holds order prints run takes
    counted
    most good performs well loud began = tt
is_unwritten Keeps Last first (Some script) None new n taken taken' line end desk desk' held before holds order prints
    run takes
    counted most good performs well loud began =
    absurd run
is_unwritten Keeps Last first (Some script) (Some rest) None n taken taken' line end desk desk' held before holds
    order prints
    run takes counted most good performs well loud began =
    absurd counted
is_unwritten Keeps Last first (Some script) (Some rest) (Some rest')
    n taken taken' line LineFeed desk desk' held before holds order prints run takes counted most good
    performs well loud began =
    let front : List ℕ = run.1.front ++ (takes.0 ++ 10 ∷ []) in
    let goes = fed Keeps first script rest rest' line n taken taken' desk run.0 run.1 takes.0 takes.1 takes.2 takes.3
    in record {
      front = front;
      parts = split_on Keeps first script rest rest' line n taken taken' desk run.0 run.1 takes.0 takes.1 takes.2
          takes.3;
      ended = inl (run.1.front ++ takes.0, sym (append_assoc run.1.front takes.0 (10 ∷ [])));
      within =
          let s = size_on Keeps first script rest rest' line n taken taken' desk run.0 run.1 takes.0 takes.1
          takes.2 takes.3 counted in
          omega (arith, s, most);
      before = run.1.done;
      line = line;
      all = ap lines (sym (append-nil front)) ∙ goes [] ∙ append-nil (run.1.done ++ line ∷ []);
      between = desk;
      last = desk';
      out = run.0;
      text = text_of prints;
      prior = run.1.prints;
      one = prints_one Keeps Last desk desk' line order prints good performs well;
      speaks = loud;
      size = began.0;
      begun = Appends-trans held before holds run.0 (take began.0 (text_of prints)) run.2 began.1;
    }
is_unwritten Keeps Last first (Some script) (Some rest) (Some rest')
    n taken taken' [] EndOfScript desk desk' held before holds order prints run takes counted most good
    performs well loud began =
    absurd (loud (silent Keeps Last order prints desk desk' good performs))
is_unwritten Keeps Last first (Some script) (Some rest) (Some rest')
    n taken taken' (b ∷ l) EndOfScript desk desk' held before holds order prints run takes counted most good
    performs well loud began =
    record {
      front = run.1.front ++ b ∷ l;
      parts =
          run.1.split ∙ ap (λ (bytes : List ℕ). run.1.front ++ bytes) takes.0
          ∙ sym (append_assoc run.1.front (b ∷ l) rest');
      ended = inr takes.1;
      within =
          let sum = length-append run.1.front (b ∷ l) in
          let size = run.1.size in
          let parts : length rest ≡ length (b ∷ l) + length rest' = ap length takes.0 ∙ length-append (b ∷ l) rest' in
          omega (arith, sum, size, parts, counted, most);
      before = run.1.done;
      line = b ∷ l;
      all =
          run.1.goes (b ∷ l) ∙ ap (λ (ls : List (List ℕ)). run.1.done ++ ls) (lines-last (b ∷ l) takes.2)
          ∙ ap (λ (e : Bool). run.1.done ++ cond e [] ((b ∷ l) ∷ [])) (some_bytes b l);
      between = desk;
      last = desk';
      out = run.0;
      text = text_of prints;
      prior = run.1.prints;
      one = prints_one Keeps Last desk desk' (b ∷ l) order prints good performs well;
      speaks = loud;
      size = began.0;
      begun = Appends-trans held before holds run.0 (take began.0 (text_of prints)) run.2 began.1;
    }

-- nothing of a line's text is printed
pub is_unanswered : (Keeps : Facts → Type 0) (first : Desk) (script old new : Option (List ℕ)) (n taken taken' : ℕ)
    (line : List ℕ)
    (end : LineEnd) (desk desk' : Desk) (held before : Option (List ℕ)) (order : Order) (prints : Print)
    → HasRun Keeps first script old n taken desk held before → TakesLine old new line end
    → CountsTaken old new taken taken'
    → taken' ≤ SCRIPT_LIMIT → order_of line ≡ Some order → RunsLine Keeps AnyFacts order desk desk' prints
    → IsGood desk'.bench → (text_of prints ≡ [] → ⊥)
    → WhereKnown script new (λ bytes left. IsRunUnkept Keeps first bytes left held before)
unfolding is_unwritten
is_unanswered Keeps first None old new n taken taken' line end desk desk' held before order prints run takes counted
    most good
    performs well loud = tt
is_unanswered Keeps first (Some script) None new n taken taken' line end desk desk' held before order prints run takes
    counted
    most good performs well loud = absurd run
is_unanswered Keeps first (Some script) (Some rest) None n taken taken' line end desk desk' held before order prints
    run takes
    counted most good performs well loud = absurd counted
is_unanswered Keeps first (Some script) (Some rest) (Some rest') n taken taken' line LineFeed desk desk' held before
    order
    prints run takes counted most good performs well loud = record {
      into = is_unwritten Keeps AnyFacts first (Some script) (Some rest) (Some rest') n taken taken' line LineFeed
          desk desk' held
          before before order prints run takes counted most good performs well loud (0, Appends-nil before);
      nothing = refl;
    }
is_unanswered Keeps first (Some script) (Some rest) (Some rest') n taken taken' [] EndOfScript desk desk' held before
    order
    prints run takes counted most good performs well loud = absurd (loud (silent Keeps AnyFacts order prints desk
    desk' good performs))
is_unanswered Keeps first (Some script) (Some rest) (Some rest') n taken taken' (b ∷ l) EndOfScript desk desk' held
    before
    order prints run takes counted most good performs well loud = record {
      into = is_unwritten Keeps AnyFacts first (Some script) (Some rest) (Some rest') n taken taken' (b ∷ l)
          EndOfScript desk desk'
          held before before order prints run takes counted most good performs well loud (0, Appends-nil before);
      nothing = refl;
    }

-- and this is its board then
pub is_unanswered_by : (facts : Facts) (Keeps : Facts → Type 0) (first : Desk) (script old new : Option (List ℕ)) (n
    taken taken' : ℕ)
    (line : List ℕ) (end : LineEnd) (desk desk' : Desk) (held before : Option (List ℕ)) (order : Order) (prints :
    Print)
    → facts ≡ bench_facts desk'.bench → HasRun Keeps first script old n taken desk held before
    → TakesLine old new line end
    → CountsTaken old new taken taken'
    → taken' ≤ SCRIPT_LIMIT → order_of line ≡ Some order → RunsLine Keeps AnyFacts order desk desk' prints
    → IsGood desk'.bench → (text_of prints ≡ [] → ⊥) → StopsUnkept Keeps first facts script new held before
unfolding is_unanswered
is_unanswered_by facts Keeps first None old new n taken taken' line end desk desk' held before order prints is run
    takes
    counted most good performs well loud = tt
is_unanswered_by facts Keeps first (Some script) None new n taken taken' line end desk desk' held before order prints
    is run
    takes counted most good performs well loud = absurd run
is_unanswered_by facts Keeps first (Some script) (Some rest) None n taken taken' line end desk desk' held before order
    prints
    is run takes counted most good performs well loud = absurd counted
is_unanswered_by facts Keeps first (Some script) (Some rest) (Some rest') n taken taken' line LineFeed desk desk' held
    before
    order prints is run takes counted most good performs well loud = (
      is_unanswered Keeps first (Some script) (Some rest) (Some rest') n taken taken' line LineFeed desk desk' held
          before
          order prints run takes counted most good performs well loud,
      sym is,
    )
is_unanswered_by facts Keeps first (Some script) (Some rest) (Some rest') n taken taken' [] EndOfScript desk desk'
    held before
    order prints is run takes counted most good performs well loud =
    absurd (loud (silent Keeps AnyFacts order prints desk desk' good performs))
is_unanswered_by facts Keeps first (Some script) (Some rest) (Some rest') n taken taken' (b ∷ l) EndOfScript desk
    desk' held
    before order prints is run takes counted most good performs well loud = (
      is_unanswered Keeps first (Some script) (Some rest) (Some rest') n taken taken' (b ∷ l) EndOfScript desk desk'
          held
          before order prints run takes counted most good performs well loud,
      sym is,
    )

-- a line whose charge is not stored
held-compares : (order : Order) → order_of [] ≡ Some order → MayCompare order → ⊥
held-compares order asks compares =
    let nothing : order ≡ Nothing = let some = sym asks ∙ order_of-none in cc in
    subst MayCompare nothing compares

pub is_held : (facts : Facts) (Keeps : Facts → Type 0) (first : Desk) (script old new : Option (List ℕ)) (n taken
    taken' : ℕ)
    (line : List ℕ) (end : LineEnd) (desk : Desk) (held before : Option (List ℕ)) (order : Order)
    → IsUncharged order desk facts → HasRun Keeps first script old n taken desk held before → TakesLine old new line end
    → CountsTaken old new taken taken' → taken' ≤ SCRIPT_LIMIT → order_of line ≡ Some order → MayCompare order
    → StopsUncharged Keeps first facts script new held before
is_held facts Keeps first None old new n taken taken' line end desk held before order is run takes counted most asks
    compares =
    tt
is_held facts Keeps first (Some script) None new n taken taken' line end desk held before order is run takes counted
    most asks
    compares = absurd run
is_held facts Keeps first (Some script) (Some rest) None n taken taken' line end desk held before order is run takes
    counted
    most asks compares = absurd counted
is_held facts Keeps first (Some script) (Some rest) (Some rest') n taken taken' line LineFeed desk held before order
    is run
    takes counted most asks compares =
    let front : List ℕ = run.1.front ++ (takes.0 ++ 10 ∷ []) in
    let goes = fed Keeps first script rest rest' line n taken taken' desk run.0 run.1 takes.0 takes.1 takes.2 takes.3
    in (
      record {
        front = front;
        parts = split_on Keeps first script rest rest' line n taken taken' desk run.0 run.1 takes.0 takes.1 takes.2
            takes.3;
        ended = inl (run.1.front ++ takes.0, sym (append_assoc run.1.front takes.0 (10 ∷ [])));
        within =
            let s = size_on Keeps first script rest rest' line n taken taken' desk run.0 run.1 takes.0 takes.1
            takes.2 takes.3 counted in
            omega (arith, s, most);
        before = run.1.done;
        line = line;
        all = ap lines (sym (append-nil front)) ∙ goes [] ∙ append-nil (run.1.done ++ line ∷ []);
        order = order;
        asks = asks;
        compares = compares;
        between = desk;
        out = run.0;
        prior = run.1.prints;
        same = run.2;
      },
      is,
    )
is_held facts Keeps first (Some script) (Some rest) (Some rest') n taken taken' [] EndOfScript desk held before order
    is run
    takes counted most asks compares = absurd (held-compares order asks compares)
is_held facts Keeps first (Some script) (Some rest) (Some rest') n taken taken' (b ∷ l) EndOfScript desk held before
    order is
    run takes counted most asks compares = (
      record {
        front = run.1.front ++ b ∷ l;
        parts =
            run.1.split ∙ ap (λ (bytes : List ℕ). run.1.front ++ bytes) takes.0
            ∙ sym (append_assoc run.1.front (b ∷ l) rest');
        ended = inr takes.1;
        within =
            let sum = length-append run.1.front (b ∷ l) in
            let size = run.1.size in
            let parts : length rest ≡ length (b ∷ l) + length rest' = ap length takes.0 ∙ length-append (b ∷ l) rest'
            in
            omega (arith, sum, size, parts, counted, most);
        before = run.1.done;
        line = b ∷ l;
        all =
            run.1.goes (b ∷ l) ∙ ap (λ (ls : List (List ℕ)). run.1.done ++ ls) (lines-last (b ∷ l) takes.2)
            ∙ ap (λ (e : Bool). run.1.done ++ cond e [] ((b ∷ l) ∷ [])) (some_bytes b l);
        order = order;
        asks = asks;
        compares = compares;
        between = desk;
        out = run.0;
        prior = run.1.prints;
        same = run.2;
      },
      is,
    )

-- the same, of the run alone; and a run that is one of two
pub held_stops : (facts : Facts) (Keeps : Facts → Type 0) (first : Desk) (script left old new : Option (List ℕ))
    → StopsUncharged Keeps first facts script left old new
    → WhereKnown script left (λ bytes rest. IsRunUnkept Keeps first bytes rest old new ⊎ IsRunBefore Keeps first bytes
    rest old new)
held_stops facts Keeps first None left old new stops = tt
held_stops facts Keeps first (Some script) None old new stops = absurd stops
held_stops facts Keeps first (Some script) (Some left) old new stops = inr stops.0

pub unkept_stops : (Keeps : Facts → Type 0) (first : Desk) (script left old new : Option (List ℕ))
    → WhereKnown script left (λ bytes rest. IsRunUnkept Keeps first bytes rest old new)
    → WhereKnown script left (λ bytes rest. IsRunUnkept Keeps first bytes rest old new ⊎ IsRunBefore Keeps first bytes
    rest old new)
unkept_stops Keeps first None left old new stops = tt
unkept_stops Keeps first (Some script) None old new stops = absurd stops
unkept_stops Keeps first (Some script) (Some left) old new stops = inl stops
