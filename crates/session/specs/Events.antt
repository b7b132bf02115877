-- What a line of a session says: an event, and beside it the frame that is handed in. Definitions only.
use Rattle.std.specs.Prelude.{ℕ, ◌/◌, ◌%◌, ◌^◌, Bool, List, [], ◌∷◌, Result, Ok, Err}
use Rattle.codec.specs.declared.bus.CanFrame.{CanFrame}
use Rattle.motor.specs.engine.Requests.{no_frame}
use Rattle.station.specs.declared.call.Call.TheVariants as call
use Rattle.session.specs.declared.event.Event.{Event}
use Rattle.session.specs.declared.event.Event.TheVariants as event
use Rattle.session.specs.declared.event.Line.{Line}
use Rattle.session.specs.declared.event.Other.TheVariants as other
use Rattle.session.specs.declared.event.Reason.{Reason}

-- no frame stands beside the event
abbrev pub bare : Event → Line
bare e = record { event = e; frame = no_frame }

-- a line that is no event
abbrev pub bad : Reason → Line
bad r = bare (event.Other (other.Error r))

-- what is read, or why it is none
abbrev pub line_of : Result Line Reason → Line
line_of (Ok l) = l
line_of (Err r) = bad r

-- what follows a good step; a reason ends it
infixl 10 ◌>>=◌
abbrev pub ◌>>=◌ : {A B : Type 0} → Result A Reason → (A → Result B Reason) → Result B Reason
Ok a >>= f = f a
Err r >>= f = Err r

-- the eight bytes of a payload's number, the highest first
abbrev pub payload : ℕ → List ℕ
payload v =
    v / 0x0100_0000_0000_0000 % 2 ^ 8
    ∷ v / 0x0001_0000_0000_0000 % 2 ^ 8
    ∷ v / 0x0000_0100_0000_0000 % 2 ^ 8
    ∷ v / 0x0000_0001_0000_0000 % 2 ^ 8
    ∷ v / 0x0100_0000 % 2 ^ 8
    ∷ v / 0x0001_0000 % 2 ^ 8
    ∷ v / 0x0100 % 2 ^ 8
    ∷ v % 2 ^ 8
    ∷ []

abbrev pub can_frame : ℕ → ℕ → Bool → ℕ → Bool → CanFrame
can_frame id v extended dlc rx = record { arbitration_id = id; «data» = payload v; dlc = dlc; is_extended = extended; is_rx = rx }

-- a frame is handed in at a time
abbrev pub hands : CanFrame → ℕ → Line
hands f time = record { event = event.Call (call.Frame time); frame = f }
