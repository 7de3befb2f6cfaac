-- Records that are laid down last record first have the text, the offsets and the size of the tree (`whole_laid`,
-- `image_laid`), or stop where they are too large (`image_stops`, `below_stops`). Stands on the definitions alone.
use Rattle.std.proofs.Common.{◌≡◌, ℕ, zero, suc, ◌+◌, ◌-◌, ◌≤◌, ◌<◌, Bool, false, cond, List, [], ◌∷◌, ◌++◌, length, map, drop, get_or, nat_eq, refl, sym, ap, subst, slice_get, Some, None, Vec, ◌∙◌, append_assoc, arith}
use Rattle.std.proofs.lemmas.List.{append-nil, length-append}
use Rattle.std.proofs.lemmas.Bool.Decides.{nat_tests}
use Rattle.sequence.specs.Tree.{Elements, no_items}
use Rattle.dicomdir.specs.declared.level.Level.{Level}
use Rattle.dicomdir.specs.declared.level.Level.TheVariants.{Patient, Study, Series, Image}
use Rattle.dicomdir_writing.specs.declared.build_plan.LaidRecord.{LaidRecord}
use Rattle.dicomdir_writing.specs.declared.build_plan.Stop.{Stop}
use Rattle.std.specs.Borrow.{Bor}
use Rattle.dicomdir_writing.specs.TreeOf.{groups_of, rows_at, row_groups, forest_for, group_node, group_nodes, rows_with, seen_after, images, key_for}
use Rattle.dicomdir.specs.Level.{lower_level, is_image}
use Rattle.dicomdir.specs.Forest.{Forest, no_nodes, node}
use Rattle.dicomdir_writing.specs.machine.Building.{StopsFor, offset_from_end, entry_text, laid_text, forest_text, has_none, Adds, groups_forest, Lays}
use Rattle.dicomdir_writing.specs.Record.{spelled, spelled_items, with_offsets, record_item, record_for, record_text}
use Rattle.dicomdir_writing.specs.Positions.{record_size, forest_size, with_positions, first_record_offset, last_record_offset, last_record_offset_after}
use Rattle.dicomdir_writing.specs.Row.{Row}
use Rattle.std.proofs.lemmas.Grind.{common_steps}

none_is : (n : ℕ) → 0 < n → nat_eq n 0 ≡ false
none_is n h = grind (arith, nat_tests)

position_is : (start size : ℕ) → 0 < size → offset_from_end (start + size) size ≡ start
position_is start size h = let e : start + size - size ≡ start = omega arith in ap (λ (b : Bool). cond b 0 (start + size - size)) (none_is size h) ∙ e

pub laid_push : {A : Type 0} (total : ℕ) (es : List (LaidRecord A)) (e : LaidRecord A) → laid_text total (es ++ e ∷ []) ≡ entry_text total e ++ laid_text total es
laid_push total [] e = sym (append-nil (entry_text total e))
laid_push total (x ∷ es) e = ap (λ (t : List ℕ). t ++ entry_text total x) (laid_push total es e) ∙ append_assoc (entry_text total e) (laid_text total es) (entry_text total x)

pub lays_none : {A : Type 0} (es : List (LaidRecord A)) (size : ℕ) → Lays no_nodes es es size size 0 0
lays_none es size = grind (arith, common_steps)

module _ {A : Type 0} (forest : Forest Elements) (old new : List (LaidRecord A)) (old_size new_size first last : ℕ) (lays : Lays forest old new old_size new_size first last) where
  text_at : (start total : ℕ) → total ≡ start + new_size → laid_text total new ≡ forest_text (with_positions start forest) ++ laid_text total old
  text_at start total e = rw e (lays.text start)

  first_at : (start total : ℕ) → total ≡ start + new_size → offset_from_end total first ≡ first_record_offset (with_positions start forest)
  first_at start total e = rw e (lays.first_is start)

  last_at : (start total : ℕ) → total ≡ start + new_size → offset_from_end total last ≡ last_record_offset (with_positions start forest)
  last_at start total e = rw e (lays.last_is start)

last_of_node : (next : Forest Elements) (start p s f l last total : ℕ) → nat_eq f 0 ≡ has_none next → last ≡ cond (nat_eq f 0) s l → offset_from_end total s ≡ start
    → offset_from_end total l ≡ last_record_offset (with_positions p next) → offset_from_end total last ≡ last_record_offset_after start (with_positions p next)
last_of_node no_nodes start p s f l last total none is own others = grind (arith, common_steps)
last_of_node (node es below next) start p s f l last total none is own others = grind (arith, common_steps)

record_is : (level : Level) (row : Row) (next lower : ℕ) → record_text level row next lower ≡ spelled_items (record_item next lower (record_for level row) no_items)
unfolding record_text
record_is level row next lower = refl

entry_is : {A : Type 0} (e : LaidRecord A) (total : ℕ) (level : Level) (row : Row) (next lower next_position lower_offset : ℕ)
    → e.level ≡ level → e.row.now ≡ row → e.next ≡ next → e.lower ≡ lower → offset_from_end total next ≡ next_position → offset_from_end total lower ≡ lower_offset
    → entry_text total e ≡ spelled_items (record_item next_position lower_offset (record_for level row) no_items)
entry_is e total level row next lower next_position lower_offset a b c d f g =
    let whole : entry_text total e ≡ record_text level row next_position lower_offset = rw (a, b, c, d, f, g) refl in
    whole ∙ record_is level row next_position lower_offset

regrouped : (a b c d : List ℕ) → a ++ (b ++ (c ++ d)) ≡ (a ++ (b ++ c)) ++ d
regrouped a b c d = simp append_assoc

pub lays_node : {A : Type 0} (level : Level) (row : Row) (below next : Forest Elements) (e0 e1 e2 e3 : List (LaidRecord A)) (s0 s1 s2 s3 f1 l1 f2 l2 last : ℕ)
    → Lays next e0 e1 s0 s1 f1 l1 → Lays below e1 e2 s1 s2 f2 l2 → Adds level row f1 f2 e2 e3 → s3 ≡ s2 + record_size (record_for level row)
    → last ≡ cond (nat_eq f1 0) s3 l1 → Lays (node (record_for level row) below next) e0 e3 s0 s3 s3 last
lays_node level row below next e0 e1 e2 e3 s0 s1 s2 s3 f1 l1 f2 l2 last others under adds size last_is =
    let rs = record_size (record_for level row) in
    let bs = forest_size below in
    let some : 0 < rs = omega arith in
    let under_size : s2 ≡ s1 + bs = under.size in
    let own : (start : ℕ) → offset_from_end (start + s3) s3 ≡ start = λ (start : ℕ). position_is start s3 (omega (arith, size, some)) in
    let one_more = length-append e2 (adds.entry ∷ []) in
    record {
      size = omega (arith, size, under_size, others.size);
      count = omega (arith, under.count, others.count, ap length adds.last, one_more);
      text = λ start.
          let total = start + s3 in
          let e1 : total ≡ (start + rs) + s2 = omega (arith, size) in
          let e2' : total ≡ ((start + rs) + bs) + s1 = omega (arith, size, under_size) in
          let first_text = text_at _ _ _ _ _ _ _ under (start + rs) total e1 in
          let next_text = text_at _ _ _ _ _ _ _ others ((start + rs) + bs) total e2' in
          let lower_offset = first_at _ _ _ _ _ _ _ under (start + rs) total e1 in
          let next_position = first_at _ _ _ _ _ _ _ others ((start + rs) + bs) total e2' in
          let entry = entry_is adds.entry total level row f1 f2 _ _ adds.level_is adds.row_is adds.next_is adds.lower_is next_position lower_offset in
          ap (laid_text total) adds.last ∙ laid_push total e2 adds.entry ∙ ap (λ (t : List ℕ). entry_text total adds.entry ++ t) (first_text ∙ ap (λ (t : List ℕ). forest_text (with_positions (start + rs) below) ++ t) next_text)
          ∙ ap (λ (t : List ℕ). t ++ (forest_text (with_positions (start + rs) below) ++ (forest_text (with_positions ((start + rs) + bs) next) ++ laid_text total e0))) entry
          ∙ regrouped (spelled_items (record_item (first_record_offset (with_positions ((start + rs) + bs) next)) (first_record_offset (with_positions (start + rs) below)) (record_for level row) no_items)) (forest_text (with_positions (start + rs) below)) (forest_text (with_positions ((start + rs) + bs) next)) (laid_text total e0);
      first_is = own;
      last_is = λ start.
          let total = start + s3 in
          let e2' : total ≡ ((start + rs) + bs) + s1 = omega (arith, size, under_size) in
          last_of_node next start ((start + rs) + bs) s3 f1 l1 last total others.none last_is (own start) (last_at _ _ _ _ _ _ _ others ((start + rs) + bs) total e2');
      none = none_is s3 (omega (arith, size, some));
    }

pub stops_more : (most n m : ℕ) (stop : Stop) → n ≤ m → StopsFor most n stop → StopsFor most m stop
stops_more most n m v4 h s = grind (arith, nat_tests)

group_size : (r : Row → Elements) (b : List Row → Forest Elements) (group : List Row) (next : Forest Elements) → forest_size next ≤ forest_size (group_node r b group next)
group_size r b v3 next = grind (arith, nat_tests)

pub dropped_size : (r : Row → Elements) (b : List Row → Forest Elements) (n : ℕ) (groups : List (List Row)) → forest_size (groups_forest r b (drop n groups)) ≤ forest_size (groups_forest r b groups)
dropped_size r b zero groups = omega arith
dropped_size r b (suc n) [] = omega arith
dropped_size r b (suc n) (g ∷ groups) = grind (arith, common_steps, dropped_size r b n groups, group_size r b g (groups_forest r b groups))

nodes_are : (key_of : Row → List ℕ) (r : Row → Elements) (b : List Row → Forest Elements) (rows : List Row) (keys : List (List ℕ))
    → group_nodes key_of r b rows keys ≡ groups_forest r b (map (λ k. rows_with key_of k rows) keys)
nodes_are key_of r b rows [] = refl
nodes_are key_of r b rows (k ∷ keys) = ap (group_node r b (rows_with key_of k rows)) (nodes_are key_of r b rows keys)

pub forest_is : (level : Level) (rows : List Row) → is_image level ≡ false → forest_for level rows ≡ groups_forest (record_for level) (forest_for (lower_level level)) (groups_of (key_for level) rows)
forest_is Patient rows h = nodes_are (key_for Patient) (record_for Patient) (forest_for Study) rows (seen_after [] (map (key_for Patient) rows))
forest_is Study rows h = nodes_are (key_for Study) (record_for Study) (forest_for Series) rows (seen_after [] (map (key_for Study) rows))
forest_is Series rows h = nodes_are (key_for Series) (record_for Series) (forest_for Image) rows (seen_after [] (map (key_for Series) rows))
forest_is Image rows h = absurd cc

-- a record has as many bytes as its size says
item_length : (es : Elements) → length (spelled_items (record_item 0 0 es no_items)) ≡ record_size es
item_length es = let n = append-nil (spelled (with_offsets 0 0 es)) in rw n (omega arith)

pub record_length : (level : Level) (row : Row) → length (record_text level row 0 0) ≡ record_size (record_for level row)
unfolding record_text
record_length level row = item_length (record_for level row)

named : {A : Type 0} (forest : Forest Elements) (e0 e1 : List (LaidRecord A)) (s0 s1 f l first last : ℕ) → Lays forest e0 e1 s0 s1 f l → first ≡ f → last ≡ l → Lays forest e0 e1 s0 s1 first last
named forest e0 e1 s0 s1 f l first last lays a b = rw (a, b) lays

last_row : {X : Type 0} (xs : List X) (at : ℕ) (x : X) → 0 < at → at ≤ length xs → x ≡ get_or xs (at - 1) x → drop (at - 1) xs ≡ x ∷ drop at xs
last_row xs at x some le is = grind (arith, common_steps)

pub image_laid : {A : Type 0} (rows : List (Bor Row)) (at : ℕ) (row : Bor Row) (e0 e1 e2 : List (LaidRecord A)) (s0 s1 s2 f l start first last : ℕ)
    → 0 < at → at ≤ length rows → row ≡ get_or rows (at - 1) row
    → Lays (images (rows_at (drop at rows))) e0 e1 s0 s1 f l → Adds Image row.now f 0 e1 e2 → s2 ≡ s1 + record_size (record_for Image row.now) → start ≡ s2
    → first ≡ start → last ≡ cond (nat_eq f 0) start l
    → Lays (images (rows_at (drop (at - 1) rows))) e0 e2 s0 s2 first last
image_laid rows at row e0 e1 e2 s0 s1 s2 f l start first last some le is lays adds size starts firsts lasts =
    let last' : last ≡ cond (nat_eq f 0) s2 l = lasts ∙ ap (λ (n : ℕ). cond (nat_eq f 0) n l) starts in
    let one = lays_node Image row.now no_nodes (images (rows_at (drop at rows))) e0 e1 e1 e2 s0 s1 s1 s2 f l 0 0 last lays (lays_none e1 s1) adds size last' in
    rw (last_row rows at row some le is) (named _ e0 e2 s0 s2 s2 last first last one (firsts ∙ starts) refl)

images_dropped : (rows : List Row) (n : ℕ) → forest_size (images (drop n rows)) ≤ forest_size (images rows)
images_dropped rows zero = omega arith
images_dropped [] (suc n) = omega arith
images_dropped (row ∷ rows) (suc n) = let h = images_dropped rows n in omega (arith, h)

rows_dropped : (rows : List (Bor Row)) (n : ℕ) → rows_at (drop n rows) ≡ drop n (rows_at rows)
rows_dropped rows zero = refl
rows_dropped [] (suc n) = refl
rows_dropped (row ∷ rows) (suc n) = rows_dropped rows n

pub image_stops : {A : Type 0} (most : ℕ) (rows : List (Bor Row)) (at : ℕ) (row : Bor Row) (e0 e1 : List (LaidRecord A)) (s0 s1 f l : ℕ) (stop : Stop)
    → 0 < at → at ≤ length rows → row ≡ get_or rows (at - 1) row
    → Lays (images (rows_at (drop at rows))) e0 e1 s0 s1 f l → StopsFor most (s1 + record_size (record_for Image row.now)) stop
    → StopsFor most (s0 + forest_size (images (rows_at rows))) stop
image_stops most rows at row e0 e1 s0 s1 f l stop some le is lays stops = grind (arith, common_steps, rows_dropped rows (at - 1), images_dropped (rows_at rows) (at - 1), last_row rows at row some le is)

pub group_more : {X : Type 0} (group : List X) (row : X) → slice_get group 0 ≡ Some row → group ≡ row ∷ drop 1 group
group_more v1 row e = grind (arith, nat_tests)

module _ (level : Level) (groups : List (List Row)) (at : ℕ) (group : List Row) (row : Row) (some : 0 < at) (le : at ≤ length groups) (is : group ≡ get_or groups (at - 1) group) (first_row : slice_get group 0 ≡ Some row) where
  abbrev forest : List (List Row) → Forest Elements
  forest gs = groups_forest (record_for level) (forest_for (lower_level level)) gs

  here : forest (drop (at - 1) groups) ≡ node (record_for level row) (forest_for (lower_level level) group) (forest (drop at groups))
  here =
      let one : drop (at - 1) groups ≡ group ∷ drop at groups = last_row groups at group some le is in
      let two : group ≡ row ∷ drop 1 group = group_more group row first_row in
      ap forest one ∙ ap (λ (g : List Row). group_node (record_for level) (forest_for (lower_level level)) g (forest (drop at groups))) two
      ∙ ap (λ (g : List Row). node (record_for level row) (forest_for (lower_level level) g) (forest (drop at groups))) (sym two)

  pub group_laid : {A : Type 0} (e0 e1 e2 e3 : List (LaidRecord A)) (s0 s1 s2 s3 f1 l1 f2 l2 start first last : ℕ)
      → Lays (forest (drop at groups)) e0 e1 s0 s1 f1 l1 → Lays (forest_for (lower_level level) group) e1 e2 s1 s2 f2 l2
      → Adds level row f1 f2 e2 e3 → s3 ≡ s2 + record_size (record_for level row) → start ≡ s3
      → first ≡ start → last ≡ cond (nat_eq f1 0) start l1
      → Lays (forest (drop (at - 1) groups)) e0 e3 s0 s3 first last
  group_laid e0 e1 e2 e3 s0 s1 s2 s3 f1 l1 f2 l2 start first last others under adds size starts firsts lasts =
      let last' : last ≡ cond (nat_eq f1 0) s3 l1 = lasts ∙ ap (λ (n : ℕ). cond (nat_eq f1 0) n l1) starts in
      let one = lays_node level row (forest_for (lower_level level) group) (forest (drop at groups)) e0 e1 e2 e3 s0 s1 s2 s3 f1 l1 f2 l2 last others under adds size last' in
      let laid : Lays (node (record_for level row) (forest_for (lower_level level) group) (forest (drop at groups))) e0 e3 s0 s3 first last = named _ e0 e3 s0 s3 s3 last first last one (firsts ∙ starts) refl in
      subst (λ (f : Forest Elements). Lays f e0 e3 s0 s3 first last) (sym here) laid

  whole_size : (rows : List Row) → is_image level ≡ false → groups ≡ groups_of (key_for level) rows
      → record_size (record_for level row) + forest_size (forest_for (lower_level level) group) + forest_size (forest (drop at groups)) ≤ forest_size (forest_for level rows)
  whole_size rows no_image are =
      let h = dropped_size (record_for level) (forest_for (lower_level level)) (at - 1) groups in
      let e : forest_size (forest (drop (at - 1) groups)) ≡ record_size (record_for level row) + forest_size (forest_for (lower_level level) group) + forest_size (forest (drop at groups)) = ap forest_size here in
      let w : forest_for level rows ≡ forest groups = forest_is level rows no_image ∙ ap forest (sym are) in
      omega (arith, h, e, ap forest_size w)

  pub below_stops : {A : Type 0} (most : ℕ) (rows : List Row) (e0 e1 : List (LaidRecord A)) (s0 s1 f1 l1 : ℕ) (stop : Stop) → is_image level ≡ false → groups ≡ groups_of (key_for level) rows
      → Lays (forest (drop at groups)) e0 e1 s0 s1 f1 l1 → StopsFor most (s1 + forest_size (forest_for (lower_level level) group)) stop
      → StopsFor most (s0 + forest_size (forest_for level rows)) stop
  below_stops most rows e0 e1 s0 s1 f1 l1 stop no_image are others stops =
      let w = whole_size rows no_image are in
      let size : s1 ≡ s0 + forest_size (forest (drop at groups)) = others.size in
      stops_more most _ _ stop (omega (arith, w, size)) stops

  pub own_stops : {A : Type 0} (most : ℕ) (rows : List Row) (e0 e1 e2 : List (LaidRecord A)) (s0 s1 s2 f1 l1 f2 l2 : ℕ) (stop : Stop) → is_image level ≡ false → groups ≡ groups_of (key_for level) rows
      → Lays (forest (drop at groups)) e0 e1 s0 s1 f1 l1 → Lays (forest_for (lower_level level) group) e1 e2 s1 s2 f2 l2
      → StopsFor most (s2 + record_size (record_for level row)) stop
      → StopsFor most (s0 + forest_size (forest_for level rows)) stop
  own_stops most rows e0 e1 e2 s0 s1 s2 f1 l1 f2 l2 stop no_image are others under stops =
      let w = whole_size rows no_image are in
      let size : s1 ≡ s0 + forest_size (forest (drop at groups)) = others.size in
      let below : s2 ≡ s1 + forest_size (forest_for (lower_level level) group) = under.size in
      stops_more most _ _ stop (omega (arith, w, size, below)) stops

-- a group without rows has no node
pub empty_group : {A : Type 0} (r : Row → Elements) (b : List Row → Forest Elements) (groups : List (List Row)) (at : ℕ) (group : List Row) (e0 e1 : List (LaidRecord A)) (s0 s1 f l : ℕ)
    → 0 < at → at ≤ length groups → group ≡ get_or groups (at - 1) group → slice_get group 0 ≡ None
    → Lays (groups_forest r b (drop at groups)) e0 e1 s0 s1 f l → Lays (groups_forest r b (drop (at - 1) groups)) e0 e1 s0 s1 f l
empty_group r b groups at v5 e0 e1 s0 s1 f l some le is none lays = grind (arith, nat_tests, last_row)

pub group_at : {A : Type 0} (groups : List (Vec (Bor Row) A)) (n : ℕ) (v : Vec (Bor Row) A) (group : List (Bor Row)) → group ≡ v.items → v ≡ get_or groups n v
    → rows_at group ≡ get_or (row_groups groups) n (rows_at group)
group_at [] n v group e is = refl
group_at {A} (x ∷ groups) zero v group e is = ap rows_at e ∙ ap (λ (y : Vec (Bor Row) A). rows_at y.items) is
group_at (x ∷ groups) (suc n) v group e is = group_at groups n v group e is

pub first_now : (group : List (Bor Row)) (row : Bor Row) → Some row ≡ slice_get group 0 → slice_get (rows_at group) 0 ≡ Some row.now
first_now [] row e = absurd cc
first_now (x ∷ group) row e = let h : row ≡ x = cc in ap (λ (r : Bor Row). Some r.now) (sym h)

pub none_now : (group : List (Bor Row)) → None ≡ slice_get group 0 → slice_get (rows_at group) 0 ≡ None
none_now [] e = refl
none_now (x ∷ group) e = absurd cc

pub whole_laid : {A : Type 0} (level : Level) (groups : List (List Row)) (rows : List Row) (at : ℕ) (e0 e1 : List (LaidRecord A)) (s0 s1 f l : ℕ) → is_image level ≡ false → groups ≡ groups_of (key_for level) rows → at ≤ 0
    → Lays (groups_forest (record_for level) (forest_for (lower_level level)) (drop at groups)) e0 e1 s0 s1 f l → Lays (forest_for level rows) e0 e1 s0 s1 f l
whole_laid level groups rows zero e0 e1 s0 s1 f l image are le lays = grind (arith, common_steps, forest_is level rows image)
whole_laid level groups rows (suc at) e0 e1 s0 s1 f l image are le lays = absurd (omega (arith, le))
