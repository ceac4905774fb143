-- The tree machine keeps proper cards proper, and their answers have 2 to 258 bytes.
use Rattle.std.specs.Prelude.{◌≡◌, ℕ, true, List}
use Rattle.std.proofs.lemmas.Bool.{and_parts}
use Rattle.card_model.specs.Requests.{AreBytes}
use Rattle.card_model.specs.laws.ByteLaws.{are_bytes-tell}
use Rattle.card_model.specs.laws.AnswerLaws.{answers_are_short, step_keeps_proper}
use Rattle.t1_link.specs.TreeMachine.{tree_machine, IsProperState}
use Rattle.t1_link.specs.Worlds.{Answers, are_bytes, is_command}

pub command-bytes : (command : List ℕ) → is_command command ≡ true → AreBytes command
command-bytes command sound = are_bytes-tell command (and_parts (are_bytes command) _ sound).0

pub tree-answers : Answers tree_machine IsProperState
tree-answers = record {
  at_least = λ s command proper sound.
      (answers_are_short s.card s.session command proper (command-bytes command sound)).at_least;
  at_most = λ s command proper sound.
      (answers_are_short s.card s.session command proper (command-bytes command sound)).at_most;
  keeps = λ s command proper sound. step_keeps_proper s.card s.session command proper (command-bytes command sound);
}
