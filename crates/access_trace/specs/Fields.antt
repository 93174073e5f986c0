-- The fields of a line as the program holds them.
use Rattle.std.specs.Prelude.{ℕ, ◌≡◌, List, [], ◌∷◌}
use Rattle.r4_words.specs.Texts.{dec_of, hex_of}
use Rattle.access_trace.specs.Texts.{letter_of, attribute_of, quiet_of}
use Rattle.access_trace.specs.declared.fields.Fields.{Fields}
use Rattle.access_trace.specs.declared.event.Event.{Event}

-- the texts of the fields, in their order
abbrev pub texts_of : Fields → List (List ℕ)
texts_of fields =
    fields.tick.now ∷ fields.kind.now ∷ fields.attribute.now ∷ fields.quiet.now
    ∷ fields.va.now ∷ fields.pa.now ∷ fields.size.now ∷ fields.value.now ∷ []

-- Six of the fields are those of an event; they name all of it but its attribute and whether the state was quiet.
pub record AreNumbersOf (event : Event) (fields : Fields) : Type 0 where
  pub tick : fields.tick.now ≡ dec_of event.tick
  pub kind : fields.kind.now ≡ letter_of event.kind
  pub va : fields.va.now ≡ hex_of 8 event.va
  pub pa : fields.pa.now ≡ hex_of 9 event.pa
  pub size : fields.size.now ≡ dec_of event.size
  pub value : fields.value.now ≡ hex_of 16 event.value

-- the fields are those of an event
pub record AreFieldsOf (event : Event) (fields : Fields) : Type 0 where
  pub numbers : AreNumbersOf event fields
  pub attribute : fields.attribute.now ≡ attribute_of event
  pub quiet : fields.quiet.now ≡ quiet_of event
