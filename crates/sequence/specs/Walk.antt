-- What a walker reports after the bytes that it has read (this product's own profile).
use Rattle.std.specs.Prelude.{ℕ, List, [], ◌++◌, length, Option, Some, None}
use Rattle.sequence.specs.declared.coding.Coding.{Coding}
use Rattle.element.specs.declared.tag.Tag.{Tag}
use Rattle.sequence.specs.declared.fault.Fault.{Fault}
use Rattle.sequence.specs.Tree.{Elements}
use Rattle.sequence.specs.Open.{PathEntry, Tail, in_header, Open}
use Rattle.sequence.specs.Wanted.{Values, kept_of, held_of}
use Rattle.sequence.specs.Rules.{Limits}
use Rattle.sequence.specs.FirstFault.{IsUnbroken, FirstFault}

pub record Report : Type 0 where
  -- the fault, if any
  pub fault : Option Fault
  -- the number of open levels: sequences and items
  pub levels : ℕ
  -- how many bytes were read; after a fault, how many up to the byte that showed it
  pub offset : ℕ
  -- how many bytes the walker holds
  pub held : ℕ
  -- the wanted values that are whole
  pub kept : Values

-- what a walker reports that has read the bytes b
pub data Reports (s : Coding) (lim : Limits) (b : List ℕ) : Report → Type 0 where
  -- b breaks no rule: the report describes b
  going : {es : Elements} {path : List PathEntry} {last : ℕ} {tail : Tail}
      → IsUnbroken s lim b → Open s b es path last tail
      → Reports s lim b (record { fault = None; levels = length path; offset = length b; held = held_of lim.wanted es path tail; kept = kept_of lim.wanted es })
  -- p ++ u is the shortest front of b that breaks a rule: the report has this fault, and else describes p
  refused : {p u : List ℕ} {rule : ℕ} {tag : Tag} {es : Elements} {path : List PathEntry} {last : ℕ}
      → FirstFault s lim b p u rule tag → Open s p es path last (in_header [])
      → Reports s lim b (record {
        fault = Some (record { number = rule; offset = length p; tag = tag });
        levels = length path;
        offset = length (p ++ u);
        held = held_of lim.wanted es path (in_header []);
        kept = kept_of lim.wanted es;
      })
