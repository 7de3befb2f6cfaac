-- The titles of the lines of a file, one line more (`title_more`, `no_title_more`), and with those of options
-- (`with_named`), where a file may be named (`some_named`). Stands on the definitions alone.
use Rattle.std.proofs.Common.{◌≡◌, ◌<◌, ◌+◌, ◌∙◌, ◌++◌, ◌∷◌, [], ℕ, List, Option, Some, None, IfSome, option_map, true, false, cond, Bor, length, get_or, take, filter, map, ap, ap₂, refl, sym, arith}
use Rattle.std.proofs.lemmas.List.{get_or-map, map-append, length-map, append-nil}
use Rattle.std.proofs.lemmas.List.Elements.{filter_more}
use Rattle.element.specs.declared.title.AeTitle.{AeTitle}
use Rattle.element.specs.Title.{title_of_text}
use Rattle.arguments.specs.AskedCallers.{is_title_line}

pub title_more : (lines : List (Bor (List ℕ))) (i : ℕ) (line : Bor (List ℕ)) (titles : List (List ℕ)) (title : List ℕ) → i < length lines
    → map title_of_text (filter is_title_line (take i (map (λ l. l.now) lines))) ≡ map Some titles
    → is_title_line (get_or lines i line).now ≡ true → title_of_text (get_or lines i line).now ≡ Some title
    → map title_of_text (filter is_title_line (take (i + 1) (map (λ l. l.now) lines))) ≡ map Some (titles ++ title ∷ [])
title_more lines i line titles title lt before passes gives =
    let texts = map (λ (l : Bor (List ℕ)). l.now) lines in
    let here : get_or texts i [] ≡ (get_or lines i line).now = get_or-map (λ (l : Bor (List ℕ)). l.now) lines i line [] lt in
    let below : i < length texts = omega (arith, lt, length-map lines (λ (l : Bor (List ℕ)). l.now)) in
    ap (map title_of_text) (filter_more is_title_line texts i [] below ∙ ap (λ b. filter is_title_line (take i texts) ++ cond b (get_or texts i [] ∷ []) []) (ap is_title_line here ∙ passes))
    ∙ map-append title_of_text (filter is_title_line (take i texts)) (get_or texts i [] ∷ [])
    ∙ ap₂ (λ (xs : List (Option (List ℕ))) (x : Option (List ℕ)). xs ++ x ∷ []) before (ap title_of_text here ∙ gives)
    ∙ sym (map-append Some titles (title ∷ []))

pub no_title_more : (lines : List (Bor (List ℕ))) (i : ℕ) (line : Bor (List ℕ)) (titles : List (List ℕ)) → i < length lines
    → map title_of_text (filter is_title_line (take i (map (λ l. l.now) lines))) ≡ map Some titles
    → is_title_line (get_or lines i line).now ≡ false
    → map title_of_text (filter is_title_line (take (i + 1) (map (λ l. l.now) lines))) ≡ map Some titles
no_title_more lines i line titles lt before fails =
    let texts = map (λ (l : Bor (List ℕ)). l.now) lines in
    let here : get_or texts i [] ≡ (get_or lines i line).now = get_or-map (λ (l : Bor (List ℕ)). l.now) lines i line [] lt in
    let below : i < length texts = omega (arith, lt, length-map lines (λ (l : Bor (List ℕ)). l.now)) in
    ap (map title_of_text) (filter_more is_title_line texts i [] below ∙ ap (λ b. filter is_title_line (take i texts) ++ cond b (get_or texts i [] ∷ []) []) (ap is_title_line here ∙ fails)
    ∙ append-nil (filter is_title_line (take i texts)))
    ∙ before

read_each : (named : List (Bor (List ℕ))) → map title_of_text (map (λ t. t.now) named) ≡ map (λ t. title_of_text t.now) named
read_each [] = refl
read_each (t ∷ named) = ap (λ r. title_of_text t.now ∷ r) (read_each named)

pub with_named : (listed : List (List ℕ)) (named : List (Bor (List ℕ))) (first last titles : List AeTitle)
    → map title_of_text listed ≡ map Some (map (λ t. t.0) first) → map (λ t. title_of_text t.now) named ≡ map Some (map (λ t. t.0) last) → titles ≡ first ++ last
    → map title_of_text (listed ++ map (λ t. t.now) named) ≡ map Some (map (λ t. t.0) titles)
with_named listed named first last titles read each is =
    map-append title_of_text listed (map (λ t. t.now) named)
    ∙ ap₂ (λ (xs ys : List (Option (List ℕ))). xs ++ ys) read (read_each named ∙ each)
    ∙ sym (ap (map Some) (ap (map (λ (t : AeTitle). t.0)) is ∙ map-append (λ (t : AeTitle). t.0) first last)
    ∙ map-append Some (map (λ (t : AeTitle). t.0) first) (map (λ (t : AeTitle). t.0) last))

pub some_named : (o : Option (Bor (List ℕ))) (named : Option (List ℕ)) (P : Type 0) → named ≡ option_map (λ t. t.now) o → IfSome o (λ path. P) → IfSome named (λ path. P)
some_named None named P is h = rw is tt
some_named (Some path) named P is h = rw is h
