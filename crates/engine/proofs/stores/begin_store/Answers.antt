-- Only a C-STORE announces a data set.
use Rattle.std.proofs.Common.{◌∙◌, sym, refl}
use Rattle.engine.proofs.MarksAreDone.StoreAsked.{store_if_data, instance_if_data, data_if_store}
use Rattle.engine.proofs.stores.begin_store.Goals as goal

pub returns-then-field-ne-C_STORE : goal.returns-then-field-ne-C_STORE
returns-then-field-ne-C_STORE g c = record {
  begins = λ announced. absurd (c.if-field-ne-C_STORE.true (c.field.ensures.value ∙ store_if_data _ _ _ c.field.ensures.kind announced));
  no_store = λ announced. (refl, refl);
}

pub returns-in_default : goal.returns-in_default
returns-in_default g c = record {
  begins = λ announced. let none = rw c.in_default.is at c.instance.ensures.value in instance_if_data _ _ _ none c.field.ensures.kind announced;
  no_store = λ announced. (refl, refl);
}

pub returns-clause-no_store : goal.returns-clause-no_store
returns-clause-no_store g c = λ announced. data_if_store _ _ _ c.field.ensures.kind (sym c.field.ensures.value ∙ c.if-field-ne-C_STORE.false) announced
