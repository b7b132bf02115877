-- The program's table of parameters is that of the definitions, row by row: one equation that antt computes. So the row that is found tells the kind and the name. Assumes nothing.
use Rattle.std.specs.Prelude.{ℕ, Bool, true, false, cond, List, [], ◌∷◌, Option, Some, None, eqb, map}
use Rattle.std.specs.Option.{option_map, option_map_or}
use mathlib.Core.Path.{◌≡◌, refl, ap, ◌∙◌}
use mathlib.Core.Bool.{◌||◌}
use lib.Dec.{T, eqb→eq}
use Rattle.codec.specs.declared.names.Name.{Name}
use Rattle.codec.specs.declared.registers.ParameterDataType.{ParameterDataType}
use Rattle.codec.specs.declared.registers.ParameterInfo.{ParameterInfo}
use Rattle.codec.specs.declared.registers.TheConstants.{PARAMETER_TABLE}
use Rattle.codec.specs.Kinds.{among, listed_ids, int8_ids, uint8_ids, uint16_ids, uint32_ids, kind_of, parameter_info}
use Rattle.codec.specs.Names.{named, length_in, name_in}
use Rattle.codec.specs.ParameterNames.{parameter_names, name_among, parameter_name}
use Rattle.codec.specs.Table.{row_among, parameter_row}

-- the row that the definitions have for an id with its name
abbrev pub row_of : ℕ × List ℕ → ParameterInfo
row_of listed = record { id = listed.0; name = (named listed.1).bytes; data_type = kind_of listed.0 }

pub table-is : PARAMETER_TABLE ≡ map row_of parameter_names
unfolding kind_of among int8_ids uint8_ids uint16_ids uint32_ids parameter_names
table-is = refl

-- ---- kinds

abbrev pub ids_of : List (ℕ × List ℕ) → List ℕ
ids_of names = map (λ listed. listed.0) names

ids-are : ids_of parameter_names ≡ listed_ids
unfolding parameter_names listed_ids
ids-are = refl

abbrev pub kind_in_row : Option ParameterInfo → Option ParameterDataType
kind_in_row row = option_map (λ (r : ParameterInfo). r.data_type) row

kinds-among : (names : List (ℕ × List ℕ)) (id : ℕ) → kind_in_row (row_among id (map row_of names)) ≡ cond (among id (ids_of names)) (Some (kind_of id)) None
unfolding among
kinds-among [] id = refl
kinds-among (listed ∷ names) id = go (eqb listed.0 id) (eqb→eq listed.0 id) (kinds-among names id)
  where
    rest : Option ParameterInfo
    rest = row_among id (map row_of names)

    go : (b : Bool) → (T b → listed.0 ≡ id) → kind_in_row rest ≡ cond (among id (ids_of names)) (Some (kind_of id)) None
        → kind_in_row (cond b (Some (row_of listed)) rest) ≡ cond (b || among id (ids_of names)) (Some (kind_of id)) None
    go true e h = ap (λ i. Some (kind_of i)) (e tt)
    go false e h = h

-- the row of an id tells its kind, and no other id is listed
pub kinds : (id : ℕ) → kind_in_row (parameter_row id) ≡ parameter_info id
unfolding parameter_row parameter_info
kinds id =
    ap (λ (rows : List ParameterInfo). kind_in_row (row_among id rows)) table-is
    ∙ kinds-among parameter_names id
    ∙ ap (λ (ids : List ℕ). cond (among id ids) (Some (kind_of id)) None) ids-are

-- ---- names

abbrev pub name_in_row : Option ParameterInfo → Name
name_in_row row = option_map_or (λ (r : ParameterInfo). name_in r.name) row (named [])

-- each name ends before its first space
whole-names : map (λ listed. name_in (row_of listed).name) parameter_names ≡ map (λ listed. named listed.1) parameter_names
unfolding parameter_names length_in
whole-names = refl

names-among : (names : List (ℕ × List ℕ)) (id : ℕ) → map (λ listed. name_in (row_of listed).name) names ≡ map (λ listed. named listed.1) names
    → name_in_row (row_among id (map row_of names)) ≡ name_among id names
unfolding name_among
names-among [] id h = refl
names-among (listed ∷ names) id h = go (eqb listed.0 id) (names-among names id cc)
  where
    head : name_in (row_of listed).name ≡ named listed.1
    head = cc

    rest : Option ParameterInfo
    rest = row_among id (map row_of names)

    go : (b : Bool) → name_in_row rest ≡ name_among id names → name_in_row (cond b (Some (row_of listed)) rest) ≡ cond b (named listed.1) (name_among id names)
    go true h = head
    go false h = h

-- the row of an id tells its name, and no other id has one
pub names : (id : ℕ) → name_in_row (parameter_row id) ≡ parameter_name id
unfolding parameter_row parameter_name
names id = ap (λ (rows : List ParameterInfo). name_in_row (row_among id rows)) table-is ∙ names-among parameter_names id whole-names
