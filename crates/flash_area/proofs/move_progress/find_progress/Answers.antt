use Rattle.std.proofs.Common.{◌≡◌, ◌≤◌, ℕ, List, Option, sym, inl, inr, subst, arith}
use Rattle.std.specs.Option.{IfNone, IfSome}
use Rattle.flash_device.specs.FlashLogs.{words_of}
use Rattle.flash_area.specs.ProgressParts.{HasNoCopies, IsBestCopies}
use Rattle.flash_area.specs.Spares.{FindsFurthest, IsSpare, KeepsSteps}
use Rattle.flash_area.specs.declared.move_progress.Progress.{Progress}
use Rattle.flash_area.specs.laws.Progressing.{anew_furthest, blank_furthest, blank_keep, blank_spare, copies_furthest}
use Rattle.flash_area.specs.laws.Progressing.{copies_keep, few_blank, none_furthest}
use Rattle.flash_area.proofs.move_progress.find_progress.Goals as goal

pub returns-in-None-clause-spare : goal.returns-in-None-clause-spare
returns-in-None-clause-spare g c =
    let pages = g.F.Flash.PAGES in
    let slots = g.F.Flash.SLOTS in
    let sectors = g.F.Flash.SECTORS in
    let start = g.F.Flash.sector_start in
    let fit = g.met.F.Flash.sectors_fit in
    let m = (g.F.Flash.state c.args.flash.now).words in
    let turn = c.args.turn in
    let n = c.in_ok-erased.erased in
    let count = c.in_ok-erased.ensures.blank in
    blank_spare pages slots sectors start m turn g.met.F.Flash.pages_fit.0 fit.0 fit.1 fit.2 c.if-turn-eq1.false n count

pub returns-in-None-clause-keeps : goal.returns-in-None-clause-keeps
returns-in-None-clause-keeps g c =
    let pages = g.F.Flash.PAGES in
    let slots = g.F.Flash.SLOTS in
    let sectors = g.F.Flash.SECTORS in
    let start = g.F.Flash.sector_start in
    let fit = g.met.F.Flash.sectors_fit in
    let m = (g.F.Flash.state c.args.flash.now).words in
    let mid = (g.F.Flash.state c.blank_sectors.new.flash).words in
    let turn = c.args.turn in
    let n = c.in_ok-erased.erased in
    let count = c.in_ok-erased.ensures.blank in
    let none : HasNoCopies pages slots sectors start m turn c.args.extra =
    subst (λ (l : List ℕ). HasNoCopies pages slots sectors start l turn c.args.extra) c.blank_sectors.ensures.words
    (subst (λ (o : Option Progress). IfNone o (HasNoCopies pages slots sectors start mid turn c.args.extra))
    c.in-None.is
    c.in_ok-found.ensures.none) in
    blank_keep pages slots sectors start m turn g.met.F.Flash.pages_fit.0 fit.0 fit.1 fit.2 c.if-turn-eq1.false n
    c.args.next c.args.extra count (inl none)

pub returns-then-begins_anew-clause-spare : goal.returns-then-begins_anew-clause-spare
returns-then-begins_anew-clause-spare g c =
    let pages = g.F.Flash.PAGES in
    let slots = g.F.Flash.SLOTS in
    let sectors = g.F.Flash.SECTORS in
    let start = g.F.Flash.sector_start in
    let fit = g.met.F.Flash.sectors_fit in
    let m = (g.F.Flash.state c.args.flash.now).words in
    let turn = c.args.turn in
    let n = c.in_ok-erased.erased in
    let count = c.in_ok-erased.ensures.blank in
    blank_spare pages slots sectors start m turn g.met.F.Flash.pages_fit.0 fit.0 fit.1 fit.2 c.if-turn-eq1.false n count

pub returns-then-begins_anew-clause-keeps : goal.returns-then-begins_anew-clause-keeps
returns-then-begins_anew-clause-keeps g c =
    let pages = g.F.Flash.PAGES in
    let slots = g.F.Flash.SLOTS in
    let sectors = g.F.Flash.SECTORS in
    let start = g.F.Flash.sector_start in
    let fit = g.met.F.Flash.sectors_fit in
    let m = (g.F.Flash.state c.args.flash.now).words in
    let turn = c.args.turn in
    let n = c.in_ok-erased.erased in
    let count = c.in_ok-erased.ensures.blank in
    blank_keep pages slots sectors start m turn g.met.F.Flash.pages_fit.0 fit.0 fit.1 fit.2 c.if-turn-eq1.false n
    c.args.next c.args.extra count (inr (c.begins_anew.ensures.yes c.if-begins_anew.true).1)

pub returns-else-begins_anew-clause-spare : goal.returns-else-begins_anew-clause-spare
returns-else-begins_anew-clause-spare g c =
    let pages = g.F.Flash.PAGES in
    let slots = g.F.Flash.SLOTS in
    let sectors = g.F.Flash.SECTORS in
    let start = g.F.Flash.sector_start in
    let m = (g.F.Flash.state c.args.flash.now).words in
    let mid = (g.F.Flash.state c.blank_sectors.new.flash).words in
    let turn = c.args.turn in
    let found = c.in-Some.found in
    let has : (found.erased ≡ sectors) × IsBestCopies pages slots sectors start mid turn c.args.extra found.copied
    found.behind found.older =
    subst (λ (o : Option Progress). IfSome o (λ r. (r.erased ≡ sectors) × IsBestCopies pages slots sectors start mid
    turn
    c.args.extra r.copied r.behind r.older)) c.in-Some.is c.in_ok-found.ensures.found in
    let best : IsBestCopies pages slots sectors start m turn c.args.extra found.copied found.behind found.older =
    subst (λ (l : List ℕ). IsBestCopies pages slots sectors start l turn c.args.extra found.copied found.behind
    found.older) c.blank_sectors.ensures.words has.1 in
    subst (λ (k : ℕ). IsSpare pages slots sectors start m (words_of pages slots m) turn k found.copied found.behind
    found.older) (sym has.0) best.spare

pub returns-else-begins_anew-clause-keeps : goal.returns-else-begins_anew-clause-keeps
returns-else-begins_anew-clause-keeps g c =
    let pages = g.F.Flash.PAGES in
    let slots = g.F.Flash.SLOTS in
    let sectors = g.F.Flash.SECTORS in
    let start = g.F.Flash.sector_start in
    let fit = g.met.F.Flash.sectors_fit in
    let m = (g.F.Flash.state c.args.flash.now).words in
    let mid = (g.F.Flash.state c.blank_sectors.new.flash).words in
    let turn = c.args.turn in
    let n = c.in_ok-erased.erased in
    let count = c.in_ok-erased.ensures.blank in
    let found = c.in-Some.found in
    let has : (found.erased ≡ sectors) × IsBestCopies pages slots sectors start mid turn c.args.extra found.copied
    found.behind found.older =
    subst (λ (o : Option Progress). IfSome o (λ r. (r.erased ≡ sectors) × IsBestCopies pages slots sectors start mid
    turn
    c.args.extra r.copied r.behind r.older)) c.in-Some.is c.in_ok-found.ensures.found in
    let best : IsBestCopies pages slots sectors start m turn c.args.extra found.copied found.behind found.older =
    subst (λ (l : List ℕ). IsBestCopies pages slots sectors start l turn c.args.extra found.copied found.behind
    found.older) c.blank_sectors.ensures.words has.1 in
    let why = c.begins_anew.ensures.no c.if-begins_anew.false in
    subst (λ (k : ℕ). KeepsSteps pages slots sectors start m turn c.args.next c.args.extra k found.copied found.behind)
    (sym has.0)
    (copies_keep pages slots sectors start m turn g.met.F.Flash.pages_fit.0 fit.0 fit.1 fit.2 c.if-turn-eq1.false n
    c.args.next c.args.extra found.copied found.behind found.older count best why)

pub returns-then-turn-eq1-clause-blank : goal.returns-then-turn-eq1-clause-blank
returns-then-turn-eq1-clause-blank g c = λ e b o k lt spare.
    let none = spare.idle c.if-turn-eq1.true in omega (arith, none)

pub returns-in-None-clause-blank : goal.returns-in-None-clause-blank
returns-in-None-clause-blank g c = λ e copied behind older lt spare.
    let pages = g.F.Flash.PAGES in
    let fit = g.met.F.Flash.sectors_fit in
    let m = (g.F.Flash.state c.args.flash.now).words in
    (few_blank pages g.F.Flash.SLOTS g.F.Flash.SECTORS g.F.Flash.sector_start m c.args.turn g.met.F.Flash.pages_fit.0
    fit.0 fit.1 fit.2 c.in_ok-erased.erased e copied behind older c.in_ok-erased.ensures.blank lt spare).0

pub returns-then-begins_anew-clause-blank : goal.returns-then-begins_anew-clause-blank
returns-then-begins_anew-clause-blank g c = λ e copied behind older lt spare.
    let pages = g.F.Flash.PAGES in
    let fit = g.met.F.Flash.sectors_fit in
    let m = (g.F.Flash.state c.args.flash.now).words in
    (few_blank pages g.F.Flash.SLOTS g.F.Flash.SECTORS g.F.Flash.sector_start m c.args.turn g.met.F.Flash.pages_fit.0
    fit.0 fit.1 fit.2 c.in_ok-erased.erased e copied behind older c.in_ok-erased.ensures.blank lt spare).0

pub returns-else-begins_anew-clause-blank : goal.returns-else-begins_anew-clause-blank
returns-else-begins_anew-clause-blank g c = λ e copied behind older lt spare.
    let mid = (g.F.Flash.state c.blank_sectors.new.flash).words in
    let found = c.in-Some.found in
    let has : (found.erased ≡ g.F.Flash.SECTORS) × IsBestCopies g.F.Flash.PAGES g.F.Flash.SLOTS g.F.Flash.SECTORS
    g.F.Flash.sector_start mid c.args.turn c.args.extra found.copied found.behind found.older =
    subst (λ (o : Option Progress). IfSome o (λ r. (r.erased ≡ g.F.Flash.SECTORS) × IsBestCopies g.F.Flash.PAGES
    g.F.Flash.SLOTS g.F.Flash.SECTORS g.F.Flash.sector_start mid c.args.turn c.args.extra r.copied r.behind r.older))
    c.in-Some.is c.in_ok-found.ensures.found in
    let all = has.0 in omega (arith, all, lt)

pub returns-then-turn-eq1-clause-furthest : goal.returns-then-turn-eq1-clause-furthest
returns-then-turn-eq1-clause-furthest g c =
    none_furthest g.F.Flash.PAGES g.F.Flash.SLOTS g.F.Flash.SECTORS g.F.Flash.sector_start
    (g.F.Flash.state c.args.flash.now).words c.args.turn c.args.next c.args.extra c.if-turn-eq1.true
    g.met.F.Flash.sectors_fit.4

pub returns-in-None-clause-furthest : goal.returns-in-None-clause-furthest
returns-in-None-clause-furthest g c =
    let pages = g.F.Flash.PAGES in
    let slots = g.F.Flash.SLOTS in
    let sectors = g.F.Flash.SECTORS in
    let start = g.F.Flash.sector_start in
    let fit = g.met.F.Flash.sectors_fit in
    let m = (g.F.Flash.state c.args.flash.now).words in
    let mid = (g.F.Flash.state c.blank_sectors.new.flash).words in
    let turn = c.args.turn in
    let none : HasNoCopies pages slots sectors start m turn c.args.extra =
    subst (λ (l : List ℕ). HasNoCopies pages slots sectors start l turn c.args.extra) c.blank_sectors.ensures.words
    (subst (λ (o : Option Progress). IfNone o (HasNoCopies pages slots sectors start mid turn c.args.extra))
    c.in-None.is
    c.in_ok-found.ensures.none) in
    blank_furthest pages slots sectors start m turn g.met.F.Flash.pages_fit.0 fit.0 fit.1 fit.2 c.in_ok-erased.erased
    c.args.next c.args.extra c.in_ok-erased.ensures.blank none

pub returns-then-begins_anew-clause-furthest : goal.returns-then-begins_anew-clause-furthest
returns-then-begins_anew-clause-furthest g c =
    let pages = g.F.Flash.PAGES in
    let slots = g.F.Flash.SLOTS in
    let sectors = g.F.Flash.SECTORS in
    let start = g.F.Flash.sector_start in
    let fit = g.met.F.Flash.sectors_fit in
    let m = (g.F.Flash.state c.args.flash.now).words in
    let mid = (g.F.Flash.state c.blank_sectors.new.flash).words in
    let turn = c.args.turn in
    let found = c.in-Some.found in
    let has : (found.erased ≡ sectors) × IsBestCopies pages slots sectors start mid turn c.args.extra found.copied
    found.behind found.older =
    subst (λ (o : Option Progress). IfSome o (λ r. (r.erased ≡ sectors) × IsBestCopies pages slots sectors start mid
    turn
    c.args.extra r.copied r.behind r.older)) c.in-Some.is c.in_ok-found.ensures.found in
    let best : IsBestCopies pages slots sectors start m turn c.args.extra found.copied found.behind found.older =
    subst (λ (l : List ℕ). IsBestCopies pages slots sectors start l turn c.args.extra found.copied found.behind
    found.older) c.blank_sectors.ensures.words has.1 in
    let yes = c.begins_anew.ensures.yes c.if-begins_anew.true in
    anew_furthest pages slots sectors start m turn g.met.F.Flash.pages_fit.0 fit.0 fit.1 fit.2 c.if-turn-eq1.false
    c.in_ok-erased.erased c.args.next c.args.extra found.copied found.behind found.older c.in_ok-erased.ensures.blank
    best yes.0 yes.1

pub returns-else-begins_anew-clause-furthest : goal.returns-else-begins_anew-clause-furthest
returns-else-begins_anew-clause-furthest g c =
    let pages = g.F.Flash.PAGES in
    let slots = g.F.Flash.SLOTS in
    let sectors = g.F.Flash.SECTORS in
    let start = g.F.Flash.sector_start in
    let fit = g.met.F.Flash.sectors_fit in
    let m = (g.F.Flash.state c.args.flash.now).words in
    let mid = (g.F.Flash.state c.blank_sectors.new.flash).words in
    let turn = c.args.turn in
    let found = c.in-Some.found in
    let has : (found.erased ≡ sectors) × IsBestCopies pages slots sectors start mid turn c.args.extra found.copied
    found.behind found.older =
    subst (λ (o : Option Progress). IfSome o (λ r. (r.erased ≡ sectors) × IsBestCopies pages slots sectors start mid
    turn
    c.args.extra r.copied r.behind r.older)) c.in-Some.is c.in_ok-found.ensures.found in
    let best : IsBestCopies pages slots sectors start m turn c.args.extra found.copied found.behind found.older =
    subst (λ (l : List ℕ). IsBestCopies pages slots sectors start l turn c.args.extra found.copied found.behind
    found.older) c.blank_sectors.ensures.words has.1 in
    subst (λ (k : ℕ). FindsFurthest pages slots sectors start m turn c.args.next c.args.extra k found.copied
    found.older) (sym has.0)
    (copies_furthest pages slots sectors start m turn g.met.F.Flash.pages_fit.0 fit.0 fit.1 fit.2 c.if-turn-eq1.false
    c.in_ok-erased.erased c.args.next c.args.extra found.copied found.behind found.older c.in_ok-erased.ensures.blank
    best (c.begins_anew.ensures.no c.if-begins_anew.false))
