use Rattle.std.proofs.Common.{arith}
use Rattle.std.proofs.lemmas.Bool.Decides.{nat_tests}
use Rattle.dicomdir.proofs.FileIds.{refused_at_front}
use Rattle.dicomdir.proofs.file_id.is_file_id.Goals as goal
use Rattle.std.proofs.lemmas.Grind.{common_steps}

pub returns-then-not-is_component_size : goal.returns-then-not-is_component_size
returns-then-not-is_component_size c = grind (arith, common_steps, refused_at_front c.args.text.now c.loop-at.at c.loop-at.size (grind (arith, nat_tests, c.loop-at-test.false)) c.loop-at.invariant.2 (grind (arith, c.is_component_size.ensures, c.if-not-is_component_size.true, c.if-not-is_component_size.ensures)))
