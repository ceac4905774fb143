use Rattle.std.proofs.Common.{◌≡◌, ◌+◌, ◌-◌, ◌/◌, length, max, ap, ◌∙◌, arith}
use Rattle.spare_sectors.specs.laws.SpareTurns.{program_leaves}
use Rattle.simulated_chips.proofs.sim_spares.SimSparesMapDevice.program_map.Goals as goal

pub invariant_of-self-clause-free : goal.invariant_of-self-clause-free
invariant_of-self-clause-free g c =
    let size = length c.args.words.now in
    let up : (c.args.at + size + 20 - 1) / 20 ≡ (c.args.at + size + 19) / 20 = omega arith in
    program_leaves 2 c.args.self.now.begun c.args.at size c.max-self.result c.args.self.now.map.items
    c.garble_run.new.words.items c.args.self.now.free c.requires.within c.garble_run.ensures.elsewhere
    (c.max-self.ensures ∙ ap (max c.args.self.now.begun) up)

pub invariant_of-self-2-clause-free : goal.invariant_of-self-2-clause-free
invariant_of-self-2-clause-free g c =
    let size = length c.args.words.now in
    let up : (c.args.at + size + 20 - 1) / 20 ≡ (c.args.at + size + 19) / 20 = omega arith in
    program_leaves 2 c.args.self.now.begun c.args.at size c.max-self.result c.args.self.now.map.items
    c.put_run.new.words.items c.args.self.now.free c.requires.within c.put_run.ensures.elsewhere
    (c.max-self.ensures ∙ ap (max c.args.self.now.begun) up)
