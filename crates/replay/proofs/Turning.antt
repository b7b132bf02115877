-- What a line leaves on the lent station, and its answer, are the by-value calls': of a call that is no look, of a look, and of what a line says besides. Assumes nothing.
use Rattle.std.proofs.Common.{◌≡◌, ℕ, List, Result, refl, sym, ap, ◌∙◌}
use Rattle.codec.specs.declared.bus.CanFrame.{CanFrame}
use Rattle.codec.specs.declared.error.Refusal.{Refusal}
use Rattle.motor.specs.declared.motor.Motor.{Motor}
use Rattle.motor.specs.declared.motor.Seen.{Seen}
use Rattle.session.specs.declared.event.Event.{Event}
use Rattle.session.specs.declared.event.Event.TheVariants as event
use Rattle.session.specs.declared.event.Line.{Line}
use Rattle.session.specs.declared.event.Other.{Other}
use Rattle.station.specs.declared.call.Call.{Call}
use Rattle.station.specs.declared.call.Call.TheVariants as call
use Rattle.station.specs.declared.call.Replied.{Replied}
use Rattle.station.specs.declared.station.Station.{Station}
use Rattle.station.specs.Calls.{time_of}
use Rattle.station.specs.Stations.{call_in, look_in}
use Rattle.station.specs.lent.Lent.{station_of}
use Rattle.answers.specs.Looks.{looked_text}
use Rattle.text.specs.declared.put.Text.{Text}
use Rattle.text.specs.Put.{put}
use Rattle.replay.specs.Events.{asked, call_text, called_text, replied_text, station_of_other, other_text, station_after, text_after, line_says, station_after_line, text_after_line}

-- a call that is no look
abbrev NotLook : Call → Type 0
NotLook (call.Register id host model wait time) = Unit {0}
NotLook (call.Start id c time) = Unit {0}
NotLook (call.Step id time) = Unit {0}
NotLook (call.Frame time) = Unit {0}
NotLook (call.Look id) = ⊥
NotLook (call.Remove id time) = Unit {0}

not-look : (k : Call) → ((id : ℕ) → k ≡ call.Look id → ⊥) → NotLook k
not-look (call.Register id host model wait time) n = tt
not-look (call.Start id c time) n = tt
not-look (call.Step id time) n = tt
not-look (call.Frame time) n = tt
not-look (call.Look id) n = n id refl
not-look (call.Remove id time) n = tt

called : (st : Station) (c : Call) (f : CanFrame) → NotLook c → called_text st c f ≡ call_text st c f
unfolding call_text
called st (call.Register id host model wait time) f n = refl
called st (call.Start id c time) f n = refl
called st (call.Step id time) f n = refl
called st (call.Frame time) f n = refl
called st (call.Look id) f n = absurd n
called st (call.Remove id time) f n = refl

looked : (st : Station) (id : ℕ) (f : CanFrame) → (call_in st (asked (call.Look id) f)).station ≡ st
unfolding call_in
looked st id f = refl

-- what a line promises: of the places and the output before it, and of both after it
abbrev pub Went : {N : ℕ} → List Motor → List ℕ → Text N → List Motor → Text N → Type 0
Went h line ys z zs = (station_of z ≡ station_after_line (station_of h) line) × (zs ≡ put ys (text_after_line (station_of h) line))

module _ {N : ℕ} (h : List Motor) (line : List ℕ) (l : Line) (ys zs : Text N) (z : List Motor) (is : l ≡ line_says line) where
  went : (e : Event) → l.event ≡ e → station_of z ≡ station_after (station_of h) e l.frame → zs ≡ put ys (text_after (station_of h) e l.frame) → Went h line ys z zs
  went e p a t = let says : line_says line ≡ l = sym is in (rw (says, p) a, rw (says, p) t)

  pub went-call : (k : Call) (y : Replied) → l.event ≡ event.Call k → ((id : ℕ) → k ≡ call.Look id → ⊥) → (y ≡ (call_in (station_of h) (asked k l.frame)).replied) × (station_of z ≡ (call_in (station_of h) (asked k l.frame)).station) → zs ≡ put ys (replied_text y (time_of k)) → Went h line ys z zs
  unfolding station_after text_after
  went-call k y e n c t =
      went (event.Call k) e c.1 (t ∙ ap (λ (w : Replied). put ys (replied_text w (time_of k))) c.0 ∙ ap (put ys) (called (station_of h) k l.frame (not-look k n)))

  pub went-look : (k : Call) (id : ℕ) (y : Result Seen Refusal) → l.event ≡ event.Call k → k ≡ call.Look id → (y ≡ look_in (station_of h) id) × (z ≡ h) → zs ≡ put ys (looked_text y) → Went h line ys z zs
  unfolding station_after text_after call_text
  went-look k id y e lk c t =
      went (event.Call (call.Look id)) (e ∙ ap event.Call lk) (ap station_of c.1 ∙ sym (looked (station_of h) id l.frame)) (t ∙ ap (λ (w : Result Seen Refusal). put ys (looked_text w)) c.0)

  pub went-other : (o : Other) → l.event ≡ event.Other o → (station_of z ≡ station_of_other (station_of h) o) × (zs ≡ put ys (other_text o)) → Went h line ys z zs
  unfolding station_after text_after
  went-other o e c = went (event.Other o) e c.0 c.1
