use Rattle.std.specs.Prelude.{if◌then◌else◌}
use Rattle.std.proofs.Common.{◌≡◌, Bool, true, false, Option, Some, None, is_some, refl, ap, true≢false}
use Rattle.nvm_board.specs.Facts.{address}
use Rattle.nvm_board.specs.History.{Log, Run, and_run}
use Rattle.simulated_boards.specs.Cut.{cut_facts}
use Rattle.simulated_boards.specs.Handed.{log_of}
use Rattle.simulated_boards.specs.Kept.{kept_log}
use Rattle.simulated_boards.specs.laws.Logging.{writes_logged}
use Rattle.simulated_boards.proofs.kept_board.KeptBoardBoard.write.Goals as goal

-- nothing is logged where nothing follows
logs_none : {F : Type 0} (log : F → Option Log) (follower : Option F) (follows : Bool) (run : Run)
    → follower ≡ None → (if follows then log_of log follower else None)
    ≡ and_run (if follows then log_of log follower else None) run
logs_none log None true run none = refl
logs_none log None false run none = refl
logs_none log (Some f) follows run none = absurd (true≢false (ap is_some none))

pub returns-in-None-clause-writes : goal.returns-in-None-clause-writes
returns-in-None-clause-writes g c =
    let b = c.args.self.now in
    let kept = kept_log g.F.Follower.log b in
    writes_logged kept kept (cut_facts b.cut) (cut_facts c.write.new.self) (λ off. refl)
    (address c.args.page c.args.first) c.args.words.now c.write.result c.write.ensures.writes
    (λ lit. logs_none g.F.Follower.log b.follower b.follows _ c.in-None.is)
