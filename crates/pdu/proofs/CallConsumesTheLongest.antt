-- A call of a deframer consumes as much of a body or a fragment as is there (`longest_body`, `longest_fragment`), and of
-- a head what is due (`longest_head`, `longest_pdv_head`). Stands on EachPartIsMarked.
use Rattle.std.proofs.Common.{◌≡◌, ℕ, ◌-◌, min, List, [], ◌∷◌, length, sym, ap, subst, ◌∙◌, arith}
use Rattle.pdu.specs.Marks.{Pdv, Leftover, End, pdv_size}
use Rattle.pdu.specs.Spot.{Opening, Plain, InPdv, spot}
use Rattle.pdu.specs.Deframing.{IsOver, AtHead, AtBody, in_body, after_body, AtPdvHead, AtLeftover, AtFragment, in_fragment, after_fragment, Longest}
use Rattle.pdu.proofs.EachPartIsMarked.{spot_opening}

pub longest_head : (bytes r : List ℕ) (there consumed : ℕ) → AtHead bytes r [] → Longest r there consumed
longest_head bytes r there consumed a =
    let e : spot r ≡ Opening = spot_opening r a.short in
    record {
      body = λ p. absurd (let wrong : Opening ≡ Plain = sym e ∙ p in cc);
      fragment = λ part p le. absurd (let wrong : Opening ≡ InPdv part = sym e ∙ p in cc);
    }

pub longest_body : (kind remaining : ℕ) (r : List ℕ) (there consumed : ℕ) → consumed ≡ min there remaining → AtBody kind remaining r [] → Longest r there consumed
longest_body kind remaining r there consumed is (in_body lt i none) = record {
  body = λ p. is ∙ ap (λ (n : ℕ). min there n) i.remaining_is;
  fragment = λ part p le. absurd (let wrong : Plain ≡ InPdv part = sym i.spot_is ∙ p in cc);
}
longest_body kind remaining r there consumed is (after_body o) = absurd (let wrong : [] ≡ End kind o.body ∷ [] = o.due_is in cc)

pub longest_pdv_head : (remaining : ℕ) (bytes r : List ℕ) (there consumed : ℕ) → AtPdvHead remaining bytes r [] → Longest r there consumed
longest_pdv_head remaining bytes r there consumed a =
    let e : spot r ≡ InPdv bytes = a.inside.spot_is in
    record {
      body = λ p. absurd (let wrong : InPdv bytes ≡ Plain = sym e ∙ p in cc);
      fragment = λ part p le.
          let same : InPdv bytes ≡ InPdv part = sym e ∙ p in
          let here : bytes ≡ part = cc in
          absurd (omega (arith, ap length here, a.short, le));
    }

pub longest_fragment : (remaining more : ℕ) (r : List ℕ) (there consumed : ℕ) → consumed ≡ min there more → AtFragment remaining more r [] → Longest r there consumed
longest_fragment remaining more r there consumed is (in_fragment lt f) =
    let e : spot r ≡ InPdv f.part = f.inside.spot_is in
    record {
      body = λ p. absurd (let wrong : InPdv f.part ≡ Plain = sym e ∙ p in cc);
      fragment = λ part p le.
          let same : InPdv f.part ≡ InPdv part = sym e ∙ p in
          let here : f.part ≡ part = cc in
          let more_is : more ≡ pdv_size f.part - length f.part = omega (arith, f.more_is) in
          is ∙ ap (λ (n : ℕ). min there n) (subst (λ (b : List ℕ). more ≡ pdv_size b - length b) here more_is);
    }
longest_fragment remaining more r there consumed is (after_fragment zero a) = absurd (let wrong : [] ≡ Pdv a.context a.control a.fragment ∷ a.later = a.due_is in cc)

pub longest_leftover : (remaining : ℕ) (r : List ℕ) (there consumed : ℕ) → AtLeftover remaining r [] → Longest r there consumed
longest_leftover remaining r there consumed a = absurd (let wrong : [] ≡ Leftover ∷ [] = a.due_is in cc)

pub longest_over : (kind remaining : ℕ) (r : List ℕ) (there consumed : ℕ) → IsOver kind remaining r [] → Longest r there consumed
longest_over kind remaining r there consumed o = absurd (let wrong : [] ≡ End kind o.body ∷ [] = o.due_is in cc)
