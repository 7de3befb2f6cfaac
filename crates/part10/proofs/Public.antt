-- What the crates above cite of this crate's lemmas: the laws of `part10::laws`, which are their contracts, in the words of
-- the definitions alone.
use Rattle.std.proofs.Common.{◌≡◌, ℕ, ◌^◌, ◌<◌, ◌≤◌, true, List, length}
use Rattle.element.specs.Uid.{is_uid}
use Rattle.part10.specs.declared.meta.Meta.{Meta}
use Rattle.part10.specs.File.{head, meta_group}
use Rattle.part10.specs.MetaText.{OneHeader, OneVerdict, SpellsMeta, meta_values_of}
use Rattle.part10.specs.Examples.{NoHeaders, SyntaxIsSaid, least_group, least_header, least_said}
use Rattle.part10.proofs.WrittenHeaderReadsBack as written
use Rattle.part10.proofs.Examples as examples
use Rattle.part10.proofs.OneHeader as headers
use Rattle.part10.proofs.Verdicts as verdicts

pub head_is_read : (meta : Meta) → is_uid meta.class ≡ true → is_uid meta.instance ≡ true → length meta.calling.0 ≡ 16 → length (meta_group meta) ≤ 360
    → SpellsMeta (meta_values_of meta) (head meta)
head_is_read = written.head_is_read

pub no_headers : NoHeaders
no_headers = examples.no_headers

pub least_read : (syntax : List ℕ) → is_uid syntax ≡ true → length (least_group syntax) < 2 ^ 32 → SpellsMeta (least_said syntax) (least_header syntax)
least_read = examples.least_read

pub other_syntax_is_a_fault : SyntaxIsSaid
other_syntax_is_a_fault = examples.other_syntax_is_a_fault

pub one_header : OneHeader
one_header = headers.one_header

pub one_verdict : OneVerdict
one_verdict = verdicts.one_verdict
