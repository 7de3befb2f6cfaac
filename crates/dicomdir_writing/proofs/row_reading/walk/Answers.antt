use Rattle.std.proofs.Common.{arith, refl, ◌∙◌}
use Rattle.dicomdir_writing.proofs.RowWalking.{reads_first, reads_on, reads_whole, reads_fails}
use Rattle.dicomdir_writing.proofs.row_reading.walk.Goals as goal
use Rattle.std.proofs.lemmas.Grind.{common_steps}

pub loop-init : goal.loop-init
loop-init g c = grind (arith, common_steps, reads_first c.args.walker.now (g.R.Read.remaining c.args.reader.now) c.requires.start)

pub returns-in-Err-walk_piece-clause-fails : goal.returns-in-Err-walk_piece-clause-fails
returns-in-Err-walk_piece-clause-fails g c =
    reads_fails c.args.walker.now c.loop.walker _ _ _ _ _ c.loop.invariant.reads c.in-Ok.ensures.consumes c.in-Err-walk_piece.ensures.fails

pub loop-preserved : goal.loop-preserved
loop-preserved g c = record {
  room = c.in-Ok.ensures.size ∙ c.loop.invariant.room;
  reads = reads_on c.args.walker.now c.loop.walker c.walk_piece.new.walker (g.R.Read.remaining c.args.reader.now) (g.R.Read.remaining c.loop.reader) (g.R.Read.remaining c.read_retrying.new.reader) _ c.loop.invariant.reads
      c.in-Ok.ensures.consumes c.in_default-walk_piece.ensures.along c.in_default-walk_piece.ensures.good c.in_default-walk_piece.ensures.same;
}

pub returns-in-Ok-finish-clause-whole : goal.returns-in-Ok-finish-clause-whole
returns-in-Ok-finish-clause-whole g c =
    reads_whole c.args.walker.now c.loop.walker (g.R.Read.remaining c.args.reader.now) (g.R.Read.remaining c.loop.reader) (g.R.Read.remaining c.read_retrying.new.reader) c.read_retrying.new.room c.in-Ok.count c.loop.invariant.reads
    c.in-Ok.ensures.consumes c.if-is_end.true (c.in-Ok.ensures.end c.if-is_end.true (let size = c.in-Ok.ensures.size in let room = c.loop.invariant.room in omega (arith, size, room))) (λ b stands. c.in-Ok-finish.ensures.whole refl b stands)
