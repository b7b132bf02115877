-- Echo: a value that the encoder takes, whose id and four bytes come back as a write of it carries them, is held with its kind and bits,
-- whoever wrote it; so of a call write_parameter. And what is held of a listed parameter is written out as it came. Assumes nothing.
use Rattle.std.proofs.Common.{◌≡◌, ℕ, ◌*◌, ◌%◌, ◌^◌, ◌<◌, Bool, true, false, cond, eqb, List, [], ◌∷◌, get_or, sym, refl, ap, ◌∙◌, mod-eq_of_lt, arith, Some, Result, Ok, Err}
use Rattle.codec.specs.declared.error.Refusal.{Refusal}
use Rattle.codec.specs.declared.bus.CanFrame.{CanFrame}
use Rattle.codec.specs.declared.protocol.ParameterValue.{ParameterValue}
use Rattle.codec.specs.declared.protocol.ParameterValue.TheVariants as value
use Rattle.codec.specs.declared.registers.ParameterDataType.{ParameterDataType}
use Rattle.codec.specs.declared.registers.ParameterDataType.TheVariants.{Int8, UInt8, UInt16, UInt32, Float32}
use Rattle.codec.specs.Kinds.{parameter_info}
use Rattle.codec.specs.Values.{le32, width_of, raw_of, InRange, encode_parameter_value, encode_parameter_write, decode_read_parameter_value}
use Rattle.codec.proofs.RoundTrips.{accepted, echoed}
use Rattle.codec.proofs.RoundTrips as codec
use Rattle.codec.proofs.TwosComplement.{byte-lt}
use Rattle.motor.specs.declared.engine.command.Command.TheVariants as command
use Rattle.motor.specs.declared.engine.operation.Move.{Move}
use Rattle.motor.specs.declared.engine.reading.Stored.{Stored}
use Rattle.motor.specs.Calls.{encodes, start_said, start_admitted}
use Rattle.motor.specs.Echo.{Carries, used_payload, WrittenOut}
use Rattle.motor.specs.Lone.{Lone, lone_start, hears}
use Rattle.motor.specs.Readings.{lookup}
use Rattle.motor.specs.Receive.{is_read, read_id, read_stored, readings_after}
use Rattle.motor.proofs.Lookups.{lookup-insert}
use Rattle.motor.proofs.Stays.{argued-passed}

-- ---- a reading that was heard

module _ (m : Lone) (f : CanFrame) (now : ℕ) (read : is_read f ≡ true) (passed : (hears m f now).said ≡ Ok tt) where
  pub heard-held : lookup (read_id f) (hears m f now).lone.readings ≡ Some (read_stored f)
  unfolding hears readings_after
  heard-held = rw (passed, read) (lookup-insert (read_id f) (read_stored f) m.readings)

-- ---- a value that was accepted for writing

-- what the encoder takes is the value's own four bytes, as a number
taken : (id : ℕ) (v : ParameterValue) → encodes (encode_parameter_value id v) ≡ Ok tt → encode_parameter_value id v ≡ Ok (raw_of v)
taken id v h = go (encode_parameter_value id v) refl h
  where
    go : (e : Result ℕ Refusal) → encode_parameter_value id v ≡ e → encodes e ≡ Ok tt → encode_parameter_value id v ≡ Ok (raw_of v)
    go (Ok raw) q p = q ∙ ap Ok (sym (accepted (parameter_info id) v raw q).1)
    go (Err r) q p =
        let z : ◌≡◌ {A = ℕ} 0 1 = cc in
        absurd (omega arith)

raw-lt : (v : ParameterValue) → InRange v → raw_of v < 2 ^ 32
raw-lt (value.I8 v) h = omega (arith, byte-lt v h)
raw-lt (value.U8 v) h = omega arith
raw-lt (value.U16 v) h = omega arith
raw-lt (value.U32 v) h = h
raw-lt (value.F32 w) h = h

either : (b : Bool) (x y : Move) (payload : List ℕ) → x.frame.data ≡ payload → y.frame.data ≡ payload → (cond b x y).frame.data ≡ payload
either true x y payload p q = p
either false x y payload p q = q

module _ (l : Lone) (id : ℕ) (v : ParameterValue) (at : ℕ) (ok : start_said l.state.clock l.state.operation.phase (command.WriteParameter id v) at ≡ Ok tt) where
  pub accepted-raw : encode_parameter_value id v ≡ Ok (raw_of v)
  accepted-raw = taken id v (argued-passed (start_admitted l.state.clock l.state.operation.phase (command.WriteParameter id v) at) (encodes (encode_parameter_value id v)) ok)

  -- the write frame carries the id in bytes 0 and 1, the value in bytes 4 to 7
  pub write-carries : (lone_start l (command.WriteParameter id v) at).frame.data ≡ encode_parameter_write id (raw_of v)
  write-carries = rw (ok, accepted-raw) (either (eqb l.state.write_wait 0) _ _ (encode_parameter_write id (raw_of v)) refl refl)

-- ---- echo

carried-id : (f : CanFrame) (id raw : ℕ) → Carries f.data (encode_parameter_write id raw) → read_id f ≡ id
unfolding read_id
carried-id f id raw c = omega arith

carried-raw : (payload : List ℕ) (id raw : ℕ) → raw < 2 ^ 32 → Carries payload (encode_parameter_write id raw) → le32 payload 4 ≡ raw
carried-raw payload id raw h c = omega arith

-- whoever writes it: the value is held, whatever lone motor hears the reply, if it isn't refused
pub echo_of : (id raw : ℕ) (v : ParameterValue) → InRange v → encode_parameter_value id v ≡ Ok raw
    → (m : Lone) (f : CanFrame) (now : ℕ)
    → is_read f ≡ true
    → Carries f.data (encode_parameter_write id raw)
    → (hears m f now).said ≡ Ok tt
    → lookup id (hears m f now).lone.readings ≡ Some (record { value = v })
unfolding read_stored
echo_of id raw v range e m f now read c passed =
    let own : raw_of v ≡ raw = (accepted (parameter_info id) v raw e).1 in
    let small : raw < 2 ^ 32 = rw (← own) (raw-lt v range) in
    let r : decode_read_parameter_value id f.data ≡ v = echoed id raw v f.data range e (carried-raw f.data id raw small c) in
    let h : lookup id (hears m f now).lone.readings ≡ Some (record { value = decode_read_parameter_value id f.data }) = rw (carried-id f id raw c) at (heard-held m f now read passed) in
    rw r at h

-- a call write_parameter that isn't refused: its frame carries such a write
pub echo : (l : Lone) (id : ℕ) (v : ParameterValue) (at : ℕ)
    → start_said l.state.clock l.state.operation.phase (command.WriteParameter id v) at ≡ Ok tt
    → InRange v
    → (m : Lone) (f : CanFrame) (now : ℕ)
    → is_read f ≡ true
    → Carries f.data (lone_start l (command.WriteParameter id v) at).frame.data
    → (hears m f now).said ≡ Ok tt
    → lookup id (hears m f now).lone.readings ≡ Some (record { value = v })
echo l id v at ok range m f now read c passed =
    echo_of id (raw_of v) v range (accepted-raw l id v at ok) m f now read (rw (write-carries l id v at ok) at c) passed

-- ---- written out

four : {h g a b c d x y z w : ℕ} → x ≡ a → y ≡ b → z ≡ c → w ≡ d → h ∷ g ∷ 0 ∷ 0 ∷ x ∷ y ∷ z ∷ w ∷ [] ≡ h ∷ g ∷ 0 ∷ 0 ∷ a ∷ b ∷ c ∷ d ∷ []
four p q r s = cc

module _ (payload : List ℕ) (small : (i : ℕ) → get_or payload i 0 < 256) where
  small-raw : le32 payload 4 < 2 ^ 32
  small-raw = omega (arith, small 4, small 5, small 6, small 7)

  all : (id : ℕ) → encode_parameter_write id (le32 payload 4 % 2 ^ 32) ≡ used_payload payload id UInt32
  all id =
      rw (mod-eq_of_lt small-raw)
      (four
      (omega (arith, small 4))
      (omega (arith, small 4, small 5))
      (omega (arith, small 4, small 5, small 6))
      (omega (arith, small 4, small 5, small 6)))

  used : (id : ℕ) (kind : ParameterDataType) → encode_parameter_write id (le32 payload 4 % 2 ^ (8 * width_of kind)) ≡ used_payload payload id kind
  used id Int8 = four (omega (arith, small 4)) (omega (arith, small 4)) (omega (arith, small 4)) (omega (arith, small 4))
  used id UInt8 = four (omega (arith, small 4)) (omega (arith, small 4)) (omega (arith, small 4)) (omega (arith, small 4))
  used id UInt16 =
      four (omega (arith, small 4, small 5)) (omega (arith, small 4, small 5)) (omega (arith, small 4, small 5)) (omega (arith, small 4, small 5))
  used id UInt32 = all id
  used id Float32 = all id

pub written_out : (m : Lone) (f : CanFrame) (now : ℕ)
    → is_read f ≡ true
    → (hears m f now).said ≡ Ok tt
    → ((i : ℕ) → get_or f.data i 0 < 256)
    → (kind : ParameterDataType) → parameter_info (read_id f) ≡ Some kind
    → (r : Stored) → lookup (read_id f) (hears m f now).lone.readings ≡ Some r
    → WrittenOut (read_id f) r.value kind f.data
unfolding read_stored
written_out m f now read passed small kind listed r h =
    let same : read_stored f ≡ r = cc (heard-held m f now read passed) in
    rw (← same)
    (record {
      raw = le32 f.data 4 % 2 ^ (8 * width_of kind);
      encodes-as = codec.written_out (read_id f) kind f.data (small-raw f.data small) listed;
      carries = used f.data small (read_id f) kind;
    })
