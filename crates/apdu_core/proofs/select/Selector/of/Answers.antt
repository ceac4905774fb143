use Rattle.std.proofs.Common.{ℕ, ◌≡◌, Bool, true, false, List, length, Some, None, refl, ap}
use Rattle.std.specs.Prelude.{if◌then◌else◌}
use Rattle.card_model.specs.Requests.{identifiers, is_path, path_from_master, path_from_current}
use Rattle.apdu_core.proofs.select.Selector.of.Goals as goal

-- numbers that are there under a test: it holds, and they are these
there : (test : Bool) (numbers others : List ℕ) → Some others ≡ (if test then Some numbers else None)
    → (true ≡ test) × (others ≡ numbers)
there true numbers others e = (refl, cc)
there false numbers others e = absurd cc

-- numbers that are not there under a test: it fails
not_there : (test : Bool) (numbers : List ℕ) → None ≡ (if test then Some numbers else None) → false ≡ test
not_there true numbers e = absurd cc
not_there false numbers e = refl

pub returns-in_err-new-in-DownFromMaster-clause-file : goal.returns-in_err-new-in-DownFromMaster-clause-file
returns-in_err-new-in-DownFromMaster-clause-file c = record {
  known =
      rw (c.from_residual.ensures, c.in-DownFromMaster.is) (not_there (is_path (length c.args.sent.now))
      (identifiers c.args.sent.now) c.in_err-new-in-DownFromMaster.ensures.identifiers);
  named = rw c.from_residual.ensures tt;
}

pub returns-in_err-new-in-DownFromCurrent-clause-file : goal.returns-in_err-new-in-DownFromCurrent-clause-file
returns-in_err-new-in-DownFromCurrent-clause-file c = record {
  known =
      rw (c.from_residual-in_err-new-in-DownFromCurrent.ensures, c.in-DownFromCurrent.is)
      (not_there (is_path (length c.args.sent.now)) (identifiers c.args.sent.now)
      c.in_err-new-in-DownFromCurrent.ensures.identifiers);
  named = rw c.from_residual-in_err-new-in-DownFromCurrent.ensures tt;
}

pub returns-in_ok-new-in-DownFromMaster-clause-file : goal.returns-in_ok-new-in-DownFromMaster-clause-file
returns-in_ok-new-in-DownFromMaster-clause-file c =
    let found = there (is_path (length c.args.sent.now)) (identifiers c.args.sent.now) _
    c.in_ok-new-in-DownFromMaster.ensures.identifiers in record {
      known = rw c.in-DownFromMaster.is found.0;
      named = rw c.in-DownFromMaster.is (ap path_from_master found.1);
    }

pub returns-in_ok-new-in-DownFromCurrent-clause-file : goal.returns-in_ok-new-in-DownFromCurrent-clause-file
returns-in_ok-new-in-DownFromCurrent-clause-file c =
    let found = there (is_path (length c.args.sent.now)) (identifiers c.args.sent.now) _
    c.in_ok-new-in-DownFromCurrent.ensures.identifiers in record {
      known = rw c.in-DownFromCurrent.is found.0;
      named = rw c.in-DownFromCurrent.is (ap path_from_current found.1);
    }
