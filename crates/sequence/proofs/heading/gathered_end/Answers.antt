use Rattle.std.proofs.Common.{◌∙◌, sym}
use Rattle.sequence.specs.machine.Judging.{limits_by}
use Rattle.sequence.proofs.CodeIsMachine.SplitHeader.{front_quiet, split_end, split_kept}
use Rattle.sequence.proofs.heading.gathered_end.Goals as goal

pub end_in-end-requires-clause-quiet : goal.end_in-end-requires-clause-quiet
end_in-end-requires-clause-quiet c =
    front_quiet (limits_by c.args.wanted.now.list.items c.args.bounds) c.args.spot c.args.header.now.items c.args.piece.now c.requires.started c.requires.more c.len-started.result c.as_slice.result.now c.gather.new.header.items c.len-started.ensures.value c.as_slice.ensures.value c.gather.ensures c.requires.quiet

pub returns-then-not-is_part-clause-end : goal.returns-then-not-is_part-clause-end
returns-then-not-is_part-clause-end c =
    split_end (limits_by c.args.wanted.now.list.items c.args.bounds) c.args.spot c.args.header.now.items c.args.piece.now c.requires.started c.requires.more c.len-started.result c.as_slice.result.now c.gather.new.header.items c.end_in-end.result c.len-started.ensures.value c.as_slice.ensures.value c.gather.ensures c.end_in-end.ensures

pub returns-else-not-is_part-clause-end : goal.returns-else-not-is_part-clause-end
returns-else-not-is_part-clause-end c =
    split_end (limits_by c.args.wanted.now.list.items c.args.bounds) c.args.spot c.args.header.now.items c.args.piece.now c.requires.started c.requires.more c.len-started.result c.as_slice.result.now c.gather.new.header.items c.end_in-end.result c.len-started.ensures.value c.as_slice.ensures.value c.gather.ensures c.end_in-end.ensures

pub returns-else-not-is_part-clause-kept : goal.returns-else-not-is_part-clause-kept
returns-else-not-is_part-clause-kept c =
    let end = split_end (limits_by c.args.wanted.now.list.items c.args.bounds) c.args.spot c.args.header.now.items c.args.piece.now c.requires.started c.requires.more c.len-started.result c.as_slice.result.now c.gather.new.header.items c.end_in-end.result c.len-started.ensures.value c.as_slice.ensures.value c.gather.ensures c.end_in-end.ensures in
    split_kept (limits_by c.args.wanted.now.list.items c.args.bounds) c.args.spot c.args.header.now.items c.args.piece.now c.requires.started c.requires.more c.gather.new.header.items c.end_in-end.result c.gather.ensures (sym c.is_part.ensures ∙ c.if-not-is_part.false) end
