use Rattle.std.proofs.Common.{◌+◌, ◌≤◌, length, arith}
use Rattle.std.proofs.lemmas.Bool.{le-ltb}
use Rattle.std.proofs.lemmas.Grind.{common_steps}
use Rattle.rules.proofs.Firsts.{first_one}
use Rattle.scope.specs.Bounded.{held}
use Rattle.scope.proofs.Held.{held_few}
use Rattle.judge.proofs.declare.declare.Goals as goal

pub returns-clause-answer : goal.returns-clause-answer
returns-clause-answer c =
    let few = held_few c.loop-x.bindings in
    let room : length (held c.args.bindings.now) + length c.args.decls.now ≤ 128 = grind (arith, common_steps) in
    simp (first_one, le-ltb 128 (length (held c.args.bindings.now) + length c.args.decls.now) room)
