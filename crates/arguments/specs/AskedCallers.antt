-- Which titles may call, by the arguments of `serve` and the text of a file of titles (this product's own profile).
use Rattle.std.specs.Prelude.{ℕ, ◌<◌, Bool, not, ◌&&◌, ◌||◌, List, [], ◌++◌, length, nat_eq, map, filter, Option, Some, None, IfSome, codes}
use Rattle.std.specs.List.{list_all, starts_with}
use Rattle.std.specs.List.Sorted.{IsPermutation}
use Rattle.std.specs.Str.Lines.{lines}
use Rattle.element.specs.Title.{title_of_text}
use Rattle.clap.specs.Walk.{Row, first_of}
use Rattle.arguments.specs.CommandLine.{values_of}

-- whether a line is blank: it has only spaces and tabs
abbrev pub is_blank : List ℕ → Bool
is_blank line = list_all (λ c. nat_eq c 32 || nat_eq c 9) line

-- whether a line of a file of titles is a title: it is not blank, and no comment, which begins with `#`
abbrev pub is_title_line : List ℕ → Bool
is_title_line line = not (is_blank line) && not (starts_with nat_eq line (codes "#"))

-- the titles of a file, one a line; a line may end in CR LF
abbrev pub listed_titles : List ℕ → List (List ℕ)
listed_titles text = filter is_title_line (lines text)

-- the titles of the named file, if a file is named
abbrev pub titles_of_file : Option (List ℕ) → List ℕ → List (List ℕ)
titles_of_file None text = []
titles_of_file (Some path) text = listed_titles text

-- the titles that may call are those of the named file and those of the options, in some order; a named file has at least
-- one title
pub record AreCallers (callers : List (List ℕ)) (rows : List Row) (text : List ℕ) : Type 0 where
  pub titles : IsPermutation (map title_of_text (titles_of_file (first_of (codes "callers") rows) text ++ values_of rows (codes "caller"))) (map Some callers)
  pub some : IfSome (first_of (codes "callers") rows) (λ path. 0 < length (listed_titles text))
