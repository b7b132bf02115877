-- Parameter kinds: the 62 ids of `PARAMETER_TABLE`, and the kind of each. Definitions only.
use Rattle.std.specs.Prelude.{ℕ, Bool, false, cond, ◌||◌, List, [], ◌∷◌, eqb, Option, Some, None}
use Rattle.codec.specs.declared.registers.ParameterDataType.{ParameterDataType}
use Rattle.codec.specs.declared.registers.ParameterDataType.TheVariants.{Int8, UInt8, UInt16, UInt32, Float32}

-- whether id is one of ids
unfoldable pub among : ℕ → List ℕ → Bool
among id [] = false
among id (x ∷ ids) = eqb x id || among id ids

unfoldable pub listed_ids : List ℕ
listed_ids =
    0x2000 ∷ 0x2001 ∷ 0x2002 ∷ 0x2003 ∷ 0x2004 ∷ 0x2005 ∷ 0x2006 ∷ 0x2007 ∷ 0x2008 ∷ 0x2009 ∷ 0x200A ∷ 0x200B
    ∷ 0x200C ∷ 0x200E ∷ 0x200F ∷ 0x2010 ∷ 0x2011 ∷ 0x2012 ∷ 0x2013 ∷ 0x2014 ∷ 0x2015 ∷ 0x2016 ∷ 0x2017 ∷ 0x2018
    ∷ 0x2019 ∷ 0x201A ∷ 0x201B ∷ 0x201C ∷ 0x201D ∷ 0x201E ∷ 0x201F ∷ 0x2020 ∷ 0x2022 ∷ 0x7005 ∷ 0x7006 ∷ 0x700A
    ∷ 0x700B ∷ 0x7010 ∷ 0x7011 ∷ 0x7014 ∷ 0x7016 ∷ 0x7017 ∷ 0x7018 ∷ 0x7019 ∷ 0x701A ∷ 0x701B ∷ 0x701C ∷ 0x701E
    ∷ 0x701F ∷ 0x7020 ∷ 0x7021 ∷ 0x7022 ∷ 0x7024 ∷ 0x7025 ∷ 0x7026 ∷ 0x7028 ∷ 0x7029 ∷ 0x702A ∷ 0x702B ∷ 0x702C
    ∷ 0x702D ∷ 0x702E
    ∷ []

unfoldable pub int8_ids : List ℕ
int8_ids = 0x7005 ∷ []

unfoldable pub uint8_ids : List ℕ
uint8_ids = 0x2009 ∷ 0x200A ∷ 0x200B ∷ 0x2010 ∷ 0x2022 ∷ 0x7029 ∷ 0x702A ∷ 0x702C ∷ 0x702D ∷ []

unfoldable pub uint16_ids : List ℕ
uint16_ids = 0x2000 ∷ 0x2001 ∷ 0x2002 ∷ 0x2003 ∷ 0x7026 ∷ []

unfoldable pub uint32_ids : List ℕ
uint32_ids = 0x2004 ∷ 0x200C ∷ 0x200E ∷ 0x7028 ∷ []

-- the other listed ids are Float32
unfoldable pub kind_of : ℕ → ParameterDataType
kind_of id =
    cond (among id int8_ids) Int8
    (cond (among id uint8_ids) UInt8 (cond (among id uint16_ids) UInt16 (cond (among id uint32_ids) UInt32 Float32)))

unfoldable pub parameter_info : ℕ → Option ParameterDataType
parameter_info id = cond (among id listed_ids) (Some (kind_of id)) None

-- a number for each kind, by which two kinds are compared
abbrev pub kind_number : ParameterDataType → ℕ
kind_number Int8 = 1
kind_number UInt8 = 2
kind_number UInt16 = 3
kind_number UInt32 = 4
kind_number Float32 = 5
