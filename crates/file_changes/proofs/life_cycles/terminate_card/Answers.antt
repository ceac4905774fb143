use Rattle.file_changes.proofs.life_cycles.terminate_card.Goals as goal

pub commit_word-requires-clause-ready : goal.commit_word-requires-clause-ready
commit_word-requires-clause-ready g c = c.requires.ready

pub returns-clause-store : goal.returns-clause-store
returns-clause-store g c = c.commit_word.ensures.store

pub returns-clause-any_exit : goal.returns-clause-any_exit
returns-clause-any_exit g c = c.commit_word.ensures.any_exit

pub returns-clause-done : goal.returns-clause-done
returns-clause-done g c = c.commit_word.ensures.done

pub returns-clause-by_gate : goal.returns-clause-by_gate
returns-clause-by_gate g c = c.commit_word.ensures.by_gate

pub returns-clause-turned : goal.returns-clause-turned
returns-clause-turned g c = c.commit_word.ensures.turned
