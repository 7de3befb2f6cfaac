-- The first parts of an A-ASSOCIATE-AC, one after the other, are its front (`front_is`). Stands on the definitions
-- alone.
use Rattle.std.proofs.Common.{◌≡◌, ℕ, List, [], ◌∷◌, ◌++◌, refl}
use Rattle.element.specs.Numbers.{be}
use Rattle.dictionary.specs.Syntaxes.{application_context}
use Rattle.pdu.specs.Record.{RequestRecord}
use Rattle.negotiate.specs.Accept.{item_text, before_contexts}

-- the parts of the front, one appended after the other
pub front_is : (follow : ℕ) (r : RequestRecord) (e0 e1 e2 e3 e4 e5 head called calling reserved : List ℕ) →
    e0 ≡ [] → head ≡ 2 ∷ 0 ∷ (be follow 4 ++ 0 ∷ 1 ∷ 0 ∷ 0 ∷ []) → called ≡ r.called → calling ≡ r.calling → reserved ≡ r.reserved →
    e1 ≡ e0 ++ head → e2 ≡ e1 ++ called → e3 ≡ e2 ++ calling → e4 ≡ e3 ++ reserved → e5 ≡ e4 ++ item_text 0x10 application_context →
    e5 ≡ 2 ∷ 0 ∷ (be follow 4 ++ before_contexts r)
front_is follow r e0 e1 e2 e3 e4 e5 head called calling reserved h0 hh ha hb hc h1 h2 h3 h4 h5 =
    rw (h5, h4, h3, h2, h1, h0, hh, ha, hb, hc) refl
