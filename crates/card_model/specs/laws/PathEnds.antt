-- Where a path ends: the path before its last identifier, and that identifier.
use Rattle.std.specs.Prelude.{◌≡◌, ◌-◌, ℕ, suc, [], ◌∷◌, ◌++◌, length, take, slice_index}
use Rattle.std.proofs.Common.{◌∙◌, ap, arith}
use Rattle.std.proofs.lemmas.List.{length-append}
use Rattle.std.proofs.Math.Seq.{take-append_seam, get_or-append_seam}
use Rattle.card_model.specs.FileTrees.{Path, master_file, parent, identifier}

pub parent-push : (path : Path) (id : ℕ) → parent (path ++ id ∷ []) ≡ path
parent-push path id =
    let l = length-append path (id ∷ []) in
    let size : length (path ++ id ∷ []) - 1 ≡ length path = omega (arith, l) in
    ap (λ (n : ℕ). take n (path ++ id ∷ [])) size ∙ take-append_seam path (id ∷ [])

pub identifier-push : (path : Path) (id : ℕ) → identifier (path ++ id ∷ []) ≡ id
identifier-push path id =
    let l = length-append path (id ∷ []) in
    let size : length (path ++ id ∷ []) ≡ suc (length path) = omega (arith, l) in
    ap (λ (n : ℕ). slice_index (master_file ∷ (path ++ id ∷ [])) n) size ∙ get_or-append_seam path id [] 0
