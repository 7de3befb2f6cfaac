-- What is no file, or a draft, changes nothing; a link is counted; a file is finished, or counted where it fails.
use Rattle.std.proofs.Common.{refl}
use Rattle.keyed_files.specs.Visiting.{done, none}
use Rattle.keyed_files.proofs.VisitsContinue.{visited_counted, visited_link, visited_same}
use Rattle.keyed_files.proofs.visiting.Visitor.visit_found.Goals as goal

pub returns-then-is_dir-clause-visited : goal.returns-then-is_dir-clause-visited
returns-then-is_dir-clause-visited g c = visited_same g.T.Consumer.consumed refl

pub returns-then-is_symlink-clause-visited : goal.returns-then-is_symlink-clause-visited
returns-then-is_symlink-clause-visited g c = visited_link g.T.Consumer.consumed c.pass_link.ensures.counted

pub returns-then-not-is_file-clause-visited : goal.returns-then-not-is_file-clause-visited
returns-then-not-is_file-clause-visited g c = visited_same g.T.Consumer.consumed c.report.ensures.same

pub returns-in-Ok-clause-visited : goal.returns-in-Ok-clause-visited
returns-in-Ok-clause-visited g c = done c.args.path.now c.in-Ok.ensures.done.0 none c.in-Ok.ensures.done.1

pub returns-in-Err-clause-visited : goal.returns-in-Err-clause-visited
returns-in-Err-clause-visited g c = visited_counted g.T.Consumer.consumed _ c.report_unread.result none c.in-Err.ensures.fails c.report_unread.ensures.counted
