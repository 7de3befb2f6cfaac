use Rattle.std.proofs.Common.{◌∙◌, sym, subst, take, arith}
use Rattle.element.specs.Header.{SpellsHeader}
use Rattle.element.proofs.Headers.{front_spells, spelled_need, spelled_header}
use Rattle.element.proofs.reading.read_header.Goals as goal

pub returns : goal.returns
returns c =
    record {
      value = c.front_header.ensures;
      spelled = λ n e. subst (λ z. SpellsHeader c.args.syntax z (take n c.args.bytes.now)) (sym c.front_header.ensures) (front_spells c.args.syntax c.args.bytes.now n (λ i. omega (arith, c.type_inv.bytes i)) c.requires e);
      only = λ h front rest e same. (spelled_header c.args.syntax h front rest c.args.bytes.now e same ∙ sym c.front_header.ensures, spelled_need c.args.syntax h front rest c.args.bytes.now e same);
    }
