use Rattle.dicomdir.proofs.file_id.FileId.text.Goals as goal

pub returns-clause-value : goal.returns-clause-value
returns-clause-value c = c.self.view_is
