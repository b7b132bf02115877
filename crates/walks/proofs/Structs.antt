-- An array of n structs as a type of one machine value (ThinWalk's Held). By itself its elements are the structs' records, and as a struct's field they are their tuples: the machine value is the same.
--     structs          the array.        structs-known     what ThinWalk and LoopWalk ask of it
--     in_field         what is a value of the array by itself is one of the array as a field.        out-of-field      and back
--     cells            the machine values of the elements.        element-is, set_is     one of them is a value of the struct; one of them is replaced
use mathlib.Core.Path.{◌≡◌, refl, sym, ◌∙◌, ap, subst}
use Prim.Native.Nat.{ℕ, zero, suc, ◌<◌}
use native.Mathlib.Nat.{not-suc-le-zero, le_of_suc-le-suc}
use mathlib.Core.List.{List, [], ◌∷◌, map}
use lib.ListN.{length, get_or, set, length-map, length-set, get_or-map}
use seplogic.Ra.Ura.{Ura}
use mir.Val.{Val}
use types.Logic.{Logic}
use denote.Shadow.{shadow}
use denote.Laws.{Is}
use denote.Array.{Array, array_val, each, Array-Tells, Array-Lawful, Array-Makes}
use denote.Struct.Struct.{Plains}
use denote.Struct.Field.{array_field}
use denote.Struct.Declared.{Declared, fields, row, field}
use denote.Struct.Laws as LL
use Rattle.walks.proofs.ThinWalk.{Held, held, Known}

map-twice : {X Y Z : Type 0} (f : X → Y) (g : Y → Z) (xs : List X) → map (λ x. g (f x)) xs ≡ map g (map f xs)
map-twice f g [] = refl
map-twice f g (x ∷ xs) = ap (λ (ys : List _). g (f x) ∷ ys) (map-twice f g xs)

map-set : {X Y : Type 0} (f : X → Y) (xs : List X) (k : ℕ) (x : X) → map f (set xs k x) ≡ set (map f xs) k (f x)
map-set f [] k x = refl
map-set f (y ∷ xs) zero x = refl
map-set f (y ∷ xs) (suc k) x = ap (λ (zs : List _). f y ∷ zs) (map-set f xs k x)

module _ (T : Declared) (L : LL.Laws T) (n : ℕ) where
  abbrev pub structs-val : List T.D → Val
  structs-val ds = array_val (map (LL.tuple_val T L) (map T.to ds))

  abbrev pub structs : Held
  structs = held (Array (row T) n) structs-val

  pub structs-known : {M : Type 1} {𝓤 : Ura M} (𝓛 : Logic 𝓤) → Plains (fields T) → Known 𝓛 structs
  structs-known 𝓛 pl = record {
    tells = λ ds vs is. Array-Tells (row T) (LL.vals T L) (LL.tells T L) n ds vs is ∙ ap (λ (us : List Val). array_val us ∷ []) (map-twice T.to (LL.tuple_val T L) ds);
    fits = λ ds v is. ((Array-Lawful 𝓛 (row T) (LL.lawful T L 𝓛) n).typed ds (v ∷ []) is).0;
    makes = Array-Makes 𝓛 (row T) (LL.makes T pl 𝓛) n;
  }

  each_in : (ds : List T.D) (us : List Val) → shadow (each T.D (row T).own_val ds us) → shadow (each (field T).row.Denot (field T).row.own_val (map T.to ds) us)
  each_in [] [] s = tt
  each_in [] (u ∷ us) s = s
  each_in (d ∷ ds) [] s = s
  each_in (d ∷ ds) (u ∷ us) s = (s.0, each_in ds us s.1)

  pub in_field : (ds : List T.D) (vs : List Val) → Is (Array (row T) n) ds vs → Is (array_field (field T) n).row (map T.to ds) vs
  in_field ds vs p = (p.0, ((p.1.0.0, length-map ds T.to ∙ p.1.0.1), each_in ds p.0 p.1.1))

  each-out : (ds : List T.D) (us : List Val) → shadow (each (field T).row.Denot (field T).row.own_val (map T.to ds) us) → shadow (each T.D (row T).own_val ds us)
  each-out [] [] s = tt
  each-out [] (u ∷ us) s = s
  each-out (d ∷ ds) [] s = s
  each-out (d ∷ ds) (u ∷ us) s = (s.0, each-out ds us s.1)

  pub out-of-field : (ds : List T.D) (vs : List Val) → Is (array_field (field T) n).row (map T.to ds) vs → Is (Array (row T) n) ds vs
  out-of-field ds vs p = (p.0, ((p.1.0.0, sym (length-map ds T.to) ∙ p.1.0.1), each-out ds p.0 p.1.1))

  -- ---- one of them

  abbrev pub cells : List T.D → List Val
  cells ds = map (LL.tuple_val T L) (map T.to ds)

  abbrev one : T.D → Val
  one d = LL.val T L d

  -- the machine value of element k
  pub cell_at : (ds : List T.D) (k : ℕ) (d : T.D) → get_or (cells ds) k (one d) ≡ one (get_or ds k d)
  cell_at ds k d = get_or-map (LL.tuple_val T L) (map T.to ds) k (T.to d) ∙ ap (LL.tuple_val T L) (get_or-map T.to ds k d)

  -- the array with another element k
  pub cells-set : (ds : List T.D) (k : ℕ) (d : T.D) → set (cells ds) k (one d) ≡ cells (set ds k d)
  cells-set ds k d = sym (ap (map (LL.tuple_val T L)) (map-set T.to ds k d) ∙ map-set (LL.tuple_val T L) (map T.to ds) k (T.to d))

  abbrev Each : List T.D → List Val → Type 0
  Each ds us = shadow (each T.D (row T).own_val ds us)

  pub cells-length : (ds : List T.D) (vs : List Val) → Is (array_field (field T) n).row (map T.to ds) vs → length (cells ds) ≡ n
  cells-length ds vs p = length-map (map T.to ds) (LL.tuple_val T L) ∙ p.1.0.1

  each-cells : (ds : List T.D) (us : List Val) → Each ds us → Each ds (cells ds)
  each-cells [] [] s = tt
  each-cells [] (u ∷ us) s = absurd s
  each-cells (d ∷ ds) [] s = absurd s
  each-cells (d ∷ ds) (u ∷ us) s = (subst (λ (vs : List Val). Is (row T) d vs) (LL.tells T L d (u ∷ []) s.0) s.0, each-cells ds us s.1)

  each_set : (ds : List T.D) (k : ℕ) (d : T.D) → Each ds (cells ds) → Is (row T) d (one d ∷ []) → Each (set ds k d) (cells (set ds k d))
  each_set [] k d s p = s
  each_set (x ∷ ds) zero d s p = (p, s.1)
  each_set (x ∷ ds) (suc k) d s p = (s.0, each_set ds k d s.1 p)

  each_at : (ds : List T.D) (k : ℕ) (d : T.D) → k < length ds → Each ds (cells ds) → Is (row T) (get_or ds k d) (one (get_or ds k d) ∷ [])
  each_at [] k d l s = absurd (not-suc-le-zero l)
  each_at (x ∷ ds) zero d l s = s.0
  each_at (x ∷ ds) (suc k) d l s = each_at ds k d (le_of_suc-le-suc l) s.1

  pub element-is : (ds : List T.D) (vs : List Val) (k : ℕ) (d : T.D) → Is (array_field (field T) n).row (map T.to ds) vs → k < n → Is (row T) (get_or ds k d) (one (get_or ds k d) ∷ [])
  element-is ds vs k d p l = let q : Is (Array (row T) n) ds vs = out-of-field ds vs p in each_at ds k d (subst (λ (m : ℕ). k < m) (sym q.1.0.1) l) (each-cells ds q.0 q.1.1)

  pub set_is : (ds : List T.D) (vs : List Val) (k : ℕ) (d : T.D) → Is (array_field (field T) n).row (map T.to ds) vs → Is (row T) d (one d ∷ [])
      → Is (array_field (field T) n).row (map T.to (set ds k d)) (array_val (cells (set ds k d)) ∷ [])
  set_is ds vs k d p is =
      let q : Is (Array (row T) n) ds vs = out-of-field ds vs p in
      in_field (set ds k d) (array_val (cells (set ds k d)) ∷ []) (cells (set ds k d), ((refl, length-set ds k d ∙ q.1.0.1), each_set ds k d (each-cells ds q.0 q.1.1) is))
