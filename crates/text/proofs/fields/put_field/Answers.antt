-- Right because a space is put, and then the number in the form that its letter asks for.
use Rattle.std.proofs.Common.{◌≡◌, Some, None, sym, ◌∙◌}
use Rattle.text.specs.Fields.{places_of}
use Rattle.text.proofs.Putting.{put_both}
use Rattle.text.proofs.fields.put_field.Goals as goal

pub returns-in-Some : goal.returns-in-Some
returns-in-Some c =
    let k : places_of c.args.letter ≡ Some c.in-Some.k = sym c.places.ensures ∙ c.in-Some.is in
    rw k (put_both c.put_byte-next.ensures c.put_hex.ensures)

pub returns-in-None : goal.returns-in-None
returns-in-None c =
    let k : places_of c.args.letter ≡ None = sym c.places.ensures ∙ c.in-None.is in
    rw k (put_both c.put_byte-next.ensures c.put_decimal.ensures)
