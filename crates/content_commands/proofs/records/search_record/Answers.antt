use Rattle.std.proofs.Common.{◌≡◌, ◌≤◌, lit<, ℕ, List, length, sym, ◌∙◌, ap, subst, arith}
use Rattle.undo_journal.specs.Memory.{committed}
use Rattle.undo_journal.specs.laws.Calls.{reads_then}
use Rattle.undo_journal.specs.laws.Told.{reads_on}
use Rattle.card_model.specs.declared.requests.RecordChoice.TheVariants.{At}
use Rattle.card_model.specs.Requests.{search_record}
use Rattle.ef_body.specs.Bodies.{cyclic_body_records}
use Rattle.card_model.specs.RecordLists.{records_found as found_in}
use Rattle.command_base.specs.declared.current.Current.{Current}
use Rattle.command_base.specs.declared.stop.Stop.TheVariants.{Refused}
use Rattle.card_model.specs.Guards.{asks_less, given, right_length}
use Rattle.card_model.specs.Behaviours.{refused, outcome}
use Rattle.card_model.specs.RecordCommands.{place_number, pointer_found, search_status}
use Rattle.command_base.specs.Working.{card_in, session_in, table_in, IsCurrent}
use Rattle.command_base.specs.CurrentFiles.{pointer_from, pointing_from}
use Rattle.content_commands.proofs.RecordSteps.{choice-barred, choice-gone, chosen-body, chosen-has, current-is}
use Rattle.content_commands.proofs.RecordSteps.{declined-empty, is-chosen, search-less, search-refused, search-whole}
use Rattle.command_base.specs.laws.Executes.{answered, halted, handed}
use Rattle.command_base.specs.laws.Stopping.{reply-failed}
use Rattle.content_commands.proofs.records.search_record.Goals as goal

-- the numbers of all records fit into an answer, and so does an empty one
all_fit : (records capacity : ℕ) → capacity ≤ 254 → records ≤ capacity → records ≤ 256
all_fit records capacity few number = omega (arith, few, number)

none_fit : (count : ℕ) → count ≡ 0 → count ≤ 256
none_fit count none = omega (arith, none)

pub search-requires : goal.search-requires
search-requires g c =
    let found = is-chosen (At c.args.first) c.in_ok-slot.slot c.in_ok-file.ensures.told
    c.pointer_at-pointer.ensures c.in_ok-slot.ensures.found in
    let stands = chosen-body (committed c.args.store.now) c.requires.target.kept.ready.usable.committed_size
    c.requires.target.kept.card
    c.args.current.now c.args.target _ _ _ found _ c.find_records.ensures.store.only.keeps.committed_words in
    let ring = c.in_ok-slot.slot.ring in
    let room = all_fit ring.records ring.capacity stands.slots.few stands.number in
    (lit< tt, (record { ready = c.in_ok-file.ensures.store.ready; body = stands }, room))

pub returns-then-asks_less : goal.returns-then-asks_less
returns-then-asks_less g c =
    let old = c.args.store.now in
    let x = c.args.current.now in
    let file = c.in_ok-file.file in
    let same = c.find_records.ensures.store.only.keeps.committed_words in
    let found = is-chosen (At c.args.first) c.in_ok-slot.slot c.in_ok-file.ensures.told
    c.pointer_at-pointer.ensures c.in_ok-slot.ensures.found in
    let number : c.in_ok-slot.slot.number ≡ place_number c.args.first (pointer_from x c.args.target) =
    found.number_is in
    let has = chosen-has _ _ _ _ _ _ found in
    let numbers : c.search.new.numbers.items ≡ found_in c.args.direction (place_number c.args.first
    (pointer_from x c.args.target)) c.args.text.now (cyclic_body_records (committed old) file.ring) =
    c.in_ok-search.ensures.bytes ∙ (λ i. found_in c.args.direction (number i) c.args.text.now (cyclic_body_records
    (same i)
    (found.ring_is i))) in
    let less = ap (asks_less c.args.expected) (sym numbers) ∙ sym c.asks_less.ensures
    ∙ c.if-asks_less.true in
    let status = ap right_length (sym numbers) ∙ sym c.right_length.ensures in
    declined-empty (search_record c.args.target c.args.first c.args.direction c.args.text.now c.args.expected) old x
    c.search.new.store c.clear.new.self.items c.clear.ensures (λ _. tt) c.requires.target.kept.card
    c.right_length.result
    (reads_then old c.find_records.new.store c.search.new.store c.find_records.ensures.store.only
    c.search.ensures.store.only) c.in_ok-search.ensures.store.ready c.requires.target.kept.current
    (search-less (committed old) c.requires.target.kept.ready.usable.committed_size c.requires.target.kept.card x
    c.args.target _
    file found.named found.named.named.unrefused c.args.first c.args.direction c.args.text.now c.args.expected
    has less
    ∙ ap (refused (card_in old) (session_in old x)) status)

pub returns : goal.returns
returns g c =
    let old = c.args.store.now in
    let x = c.args.current.now in
    let file = c.in_ok-file.file in
    let e = file.number in
    let sized = c.requires.target.kept.ready.usable.committed_size in
    let same = c.find_records.ensures.store.only.keeps.committed_words in
    let found = is-chosen (At c.args.first) c.in_ok-slot.slot c.in_ok-file.ensures.told
    c.pointer_at-pointer.ensures c.in_ok-slot.ensures.found in
    let number : c.in_ok-slot.slot.number ≡ place_number c.args.first (pointer_from x c.args.target) =
    found.number_is in
    let has = chosen-has _ _ _ _ _ _ found in
    let all : List ℕ = found_in c.args.direction (place_number c.args.first
    (pointer_from x c.args.target))
    c.args.text.now (cyclic_body_records (committed old) file.ring) in
    let numbers : c.search.new.numbers.items ≡ all =
    c.in_ok-search.ensures.bytes ∙ (λ i. found_in c.args.direction (number i) c.args.text.now (cyclic_body_records
    (same i)
    (found.ring_is i))) in
    let enough = ap (asks_less c.args.expected) (sym numbers) ∙ sym c.asks_less.ensures
    ∙ c.if-asks_less.false in
    let pointer : c.first_of-after.result ≡ pointer_found (pointer_from x c.args.target) all =
    c.first_of-after.ensures ∙ (λ i. pointer_found (c.pointer_at-pointer.ensures i) (numbers i)) in
    let y_is : c.pointing.result ≡ pointing_from x c.args.target e (pointer_found (pointer_from x c.args.target) all)
    =
    c.pointing.ensures ∙ ap (pointing_from x c.args.target e) pointer in
    let given_is : c.give.new.answer.items ≡ given c.args.expected all =
    c.give.ensures.given ∙ ap (given c.args.expected) numbers in
    let status : c.status_of_search.result ≡ search_status all = c.status_of_search.ensures
    ∙ ap search_status numbers in
    let current = current-is (committed old) sized c.requires.target.kept.card x c.args.target _ file found.named
    c.requires.target.kept.current
    (pointer_found (pointer_from x c.args.target) all) in
    answered (search_record c.args.target c.args.first c.args.direction c.args.text.now c.args.expected) old x
    c.search.new.store (λ _. tt) c.requires.target.kept.card c.pointing.result c.give.new.answer.items
    c.status_of_search.result
    (reads_then old c.find_records.new.store c.search.new.store c.find_records.ensures.store.only
    c.search.ensures.store.only) c.in_ok-search.ensures.store.ready
    (subst (λ (y : Current). IsCurrent (table_in old) y) (sym y_is) current)
    c.give.ensures.room
    (search-whole (committed old) sized c.requires.target.kept.card x c.args.target _ file found.named
    found.named.named.unrefused
    c.args.first c.args.direction c.args.text.now c.args.expected has enough
    ∙ (λ i. outcome (card_in old) (session_in old (sym y_is i)) (sym given_is i) (sym status i)))

pub returns-in_err-file : goal.returns-in_err-file
returns-in_err-file g c =
    let old = c.args.store.now in
    let x = c.args.current.now in
    halted (search_record c.args.target c.args.first c.args.direction c.args.text.now c.args.expected) old x
    c.find_records.new.store (λ _. tt) c.requires.target.kept.card c.requires.target.kept.current
    c.clear.new.self.items c.clear.ensures _ _ c.from_residual.ensures.1 c.in_err-file.ensures.store _
    (λ status refused. search-refused (card_in old) (session_in old x) c.args.target status c.args.first
    (choice-barred (card_in old) (session_in old x) c.args.target status (At c.args.first) refused)
    c.args.direction c.args.text.now c.args.expected) c.in_err-file.ensures.told

pub returns-in_err-slot : goal.returns-in_err-slot
returns-in_err-slot g c =
    let old = c.args.store.now in
    let x = c.args.current.now in
    let found = c.in_ok-file.ensures.told in
    let status = c.in_err-slot.field-0.0 in
    halted (search_record c.args.target c.args.first c.args.direction c.args.text.now c.args.expected) old x
    c.find_records.new.store (λ _. tt) c.requires.target.kept.card c.requires.target.kept.current
    c.clear.new.self.items c.clear.ensures _ (Refused status) c.from_residual-in_err-slot.ensures.1
    c.in_ok-file.ensures.store _
    (λ status refused. search-refused (card_in old) (session_in old x) c.args.target status c.args.first refused
    c.args.direction c.args.text.now c.args.expected)
    (choice-gone (committed old) c.requires.target.kept.ready.usable.committed_size c.requires.target.kept.card x
    c.args.target _
    c.in_ok-file.file found found.named.unrefused (At c.args.first) status _ c.pointer_at-pointer.ensures
    c.in_err-slot.ensures.refusal)

pub returns-in_err-search : goal.returns-in_err-search
returns-in_err-search g c =
    let none : length c.clear.new.self.items ≡ 0 = ap (λ (l : List ℕ). length l) c.clear.ensures in
    handed (search_record c.args.target c.args.first c.args.direction c.args.text.now c.args.expected)
    c.args.store.now
    c.args.current.now c.search.new.store c.requires.target.kept.card c.args.current.now c.clear.new.self.items _
    c.in_err-search.field-0.0 (reply-failed _ _ c.from_residual-in_err-search.ensures.1)
    (reads_on c.args.store.now c.find_records.new.store c.search.new.store _ c.find_records.ensures.store.only
    c.in_err-search.ensures.store) (none_fit _ none)
