-- Right because the row that is found tells the kind, and no other id is listed (proofs/ParameterTable.antt).
use Rattle.std.proofs.Common.{◌≡◌, ◌∙◌, ap, rules}
use Rattle.std.specs.Option.{option_copied}
use Rattle.codec.proofs.ParameterTable.{kinds, kind_in_row}
use Rattle.codec.proofs.registers.parameter_info.Goals as goal

pub returns : goal.returns
returns c =
    let told : c.map.result ≡ kind_in_row (option_copied c.parameter_row.result) = search rules in
    told ∙ ap kind_in_row c.parameter_row.ensures ∙ kinds c.args.id
