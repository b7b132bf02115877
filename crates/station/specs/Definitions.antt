-- What the functions of codec, engine and motor promise, against document 01's definitions: `Reads.Post` of a function is its contract,
-- as the check has read it, and `Reads.requires` what it asks. Definitions only.
use Rattle.std.specs.Prelude.{ℕ, ◌≡◌, List, [], Result, ⊤}
use base.Logic.{ent, emp}
use borrow.Fn.World.{World, Pr}
use contract.Lifetimes.{Lfts}
use contract.Monad.{fact}
use Rattle.std.specs.Borrow.{MutBor}
use Rattle.std.specs.Int.{w8}
use Rattle.std.proofs.Common.{of_z, to_z}
use Rattle.codec.specs.declared.error.Refusal.{Refusal}
use Rattle.codec.specs.declared.bus.CanFrame.{CanFrame}
use Rattle.codec.specs.Faults.{decode_fault_report}
use Rattle.codec.specs.Ids.{build_ext_id, ext_id_parts}
use Rattle.codec.specs.Kinds.{parameter_info}
use Rattle.codec.specs.Models.{model_text, model_named, limits_of, model_limits}
use Rattle.codec.specs.Modes.{control_mode_number, control_mode_from_raw}
use Rattle.codec.specs.Motion.{motion_raw, gain_raw, encode_mit_command}
use Rattle.codec.specs.Refusals.{number_of}
use Rattle.codec.specs.Names.{protocol_name}
use Rattle.codec.specs.ParameterNames.{parameter_name}
use Rattle.codec.specs.Replies.{validate_protocol_cmd, encode_set_protocol, encode_version_request, is_version_reply, decode_version_reply, ping_reply_of, decode_ping_reply}
use Rattle.codec.specs.Status.{status_value, temperature_of, decode_status_frame}
use Rattle.codec.specs.Values.{value_as, kind_in, raw_of, encode_parameter_value, encode_parameter_read, encode_parameter_write, decode_read_parameter_value}
use Rattle.codec.specs.Words.{value_of, word_of}
use Rattle.codec.proofs.error.number.Reads as number
use Rattle.codec.proofs.faults.decode_fault_report.Reads as decode-fault-report
use Rattle.codec.proofs.model.Model.name.Reads as model-name
use Rattle.codec.proofs.model.limits_of.Reads as limits-of
use Rattle.codec.proofs.model.model_limits.Reads as model-limits
use Rattle.codec.proofs.model.model_named.Reads as model-named
use Rattle.codec.proofs.motion.encode_mit_command.Reads as encode-mit-command
use Rattle.codec.proofs.motion.gain_raw.Reads as gain-raw
use Rattle.codec.proofs.motion.motion_raw.Reads as motion-raw
use Rattle.codec.proofs.protocol.ParameterValue.of_kind.Reads as of-kind
use Rattle.codec.proofs.protocol.ParameterValue.kind.Reads as value-kind
use Rattle.codec.proofs.protocol.ParameterValue.raw.Reads as value-raw
use Rattle.codec.proofs.protocol.build_ext_id.Reads as build-ext-id
use Rattle.codec.proofs.protocol.decode_read_parameter_value.Reads as decode-read-parameter-value
use Rattle.codec.proofs.protocol.encode_parameter_read.Reads as encode-parameter-read
use Rattle.codec.proofs.protocol.encode_parameter_value.Reads as encode-parameter-value
use Rattle.codec.proofs.protocol.encode_parameter_write.Reads as encode-parameter-write
use Rattle.codec.proofs.protocol.encode_set_protocol.Reads as encode-set-protocol
use Rattle.codec.proofs.protocol.ext_id_parts.Reads as ext-id-parts
use Rattle.codec.proofs.protocol.validate_protocol_cmd.Reads as validate-protocol-cmd
use Rattle.codec.proofs.protocol.protocol_name.Reads as protocol-name
use Rattle.codec.proofs.registers.parameter_info.Reads as parameter-info
use Rattle.codec.proofs.parameter_names.parameter_name.Reads as parameter-name
use Rattle.codec.proofs.registers.ControlMode.from_raw.Reads as from-raw
use Rattle.codec.proofs.registers.ControlMode.number.Reads as mode-number
use Rattle.codec.proofs.replies.decode_ping_reply.Reads as decode-ping-reply
use Rattle.codec.proofs.replies.decode_version_reply.Reads as decode-version-reply
use Rattle.codec.proofs.replies.encode_version_request.Reads as encode-version-request
use Rattle.codec.proofs.replies.is_version_reply.Reads as is-version-reply
use Rattle.codec.proofs.replies.ping_reply.Reads as ping-reply
use Rattle.codec.proofs.status.decode_status_frame.Reads as decode-status-frame
use Rattle.codec.proofs.status.status_value.Reads as status-value
use Rattle.codec.proofs.status.temperature.Reads as temperature
use Rattle.codec.proofs.word.byte_of.Reads as byte-of
use Rattle.codec.proofs.word.signed_of.Reads as signed-of
use Rattle.codec.proofs.word.value.Reads as value-reads
use Rattle.codec.proofs.word.word_of.Reads as word-of
use Rattle.motor.specs.engine.Hosts.{host_candidates}
use Rattle.motor.specs.engine.Requests.{no_frame}
use Rattle.motor.specs.engine.Run.{no_operation, begun_by, advanced, in_time}
use Rattle.motor.proofs.engine.candidates.host_candidates.Reads as host-candidates
use Rattle.motor.proofs.engine.moves.no_operation.Reads as no-operation-reads
use Rattle.motor.proofs.engine.requests.no_frame.Reads as no-frame-reads
use Rattle.motor.proofs.engine.run.begin_at.Reads as begin-at
use Rattle.motor.proofs.engine.run.advance_at.Reads as advance-at
use Rattle.motor.specs.declared.motor.Motor.{Motor}
use Rattle.motor.specs.declared.readings.Entry.{Entry}
use Rattle.motor.specs.Calls.{registration_of}
use Rattle.motor.specs.Edits.{hear_read}
use Rattle.motor.specs.Lone.{lone_start, lone_step, hears, lone_look}
use Rattle.motor.specs.Motors.{new_motor, start_of, step_of, look_of, removal_of, lone_of, AnsweredAs, HeardAs}
use Rattle.motor.specs.Readings.{lookup, Lists, at_first, drop_in, Rep, Holds, Puts, listing, empty_readings, find_of, put_of, drop_id, listed_of}
use Rattle.motor.specs.Receive.{accepts_frame, arrival_of, process_feedback_frame, hear_state}
use Rattle.motor.proofs.motor.look.Reads as look-reads
use Rattle.motor.proofs.motor.new.Reads as new-reads
use Rattle.motor.proofs.motor.removal.Reads as removal-reads
use Rattle.motor.proofs.motor.start.Reads as start-reads
use Rattle.motor.proofs.motor.step.Reads as step-reads
use Rattle.motor.proofs.readings.drop_id.Reads as drop-id
use Rattle.motor.proofs.readings.empty.Reads as empty-reads
use Rattle.motor.proofs.readings.find.Reads as find-reads
use Rattle.motor.proofs.readings.listed.Reads as listed-reads
use Rattle.motor.proofs.readings.put.Reads as put-reads
use Rattle.motor.proofs.edits.hear_read.Reads as hear-read
use Rattle.motor.proofs.quiet.hear_state.Reads as hear-state
use Rattle.motor.proofs.receive.accepts_frame.Reads as accepts-frame
use Rattle.motor.proofs.receive.arrival_of.Reads as arrival-of
use Rattle.motor.proofs.receive.process_feedback_frame.Reads as process-feedback-frame
use Rattle.motor.proofs.registration.registration.Reads as registration-reads
use Rattle.motor.proofs.registration.registration_of.Reads as registration-of
use Rattle.motor.specs.contracts.thin.process_feedback_frame_in_place as thin

-- ---- a contract P, of lifetimes k and arguments x: every result r that it allows has Q x r; or is g x

abbrev pub Means : {K X R : Type 0} → (K → X → R → X → Type 0) → (X → R → Type 0) → Type 0
Means {K} {X} {R} P Q = (k : K) (x : X) (r : R) → P k x r x → Q x r

abbrev pub Gives : {K X R : Type 0} → (K → X → R → X → Type 0) → (X → R) → Type 0
Gives P g = Means P (λ x r. r ≡ g x)

-- what is asked of a caller, P, comes from nothing: whatever the lifetimes k and the arguments x, in every model w of the logic
abbrev pub AsksNothing : {K X G : Type 0} → (K → X → G → (w : World) → Pr w) → Type 2
AsksNothing {K} {X} {G} P = (k : K) (x : X) (g : G) (w : World) → ent w.𝓤 (emp w.𝓤) (P k x g w)

-- g of no argument, of the one, the two, .. that x has

abbrev pub of0 {ℓ} : {Z : Type ℓ} → Z → Unit {0} → Z
of0 g x = g

abbrev pub of1 {ℓ} : {Z : Type ℓ} {A : Type 0} → (A → Z) → A × Unit {0} → Z
of1 g x = g x.0

abbrev pub of2 {ℓ} : {Z : Type ℓ} {A B : Type 0} → (A → B → Z) → A × (B × Unit {0}) → Z
of2 g x = g x.0 x.1.0

abbrev pub of3 {ℓ} : {Z : Type ℓ} {A B C : Type 0} → (A → B → C → Z) → A × (B × (C × Unit {0})) → Z
of3 g x = g x.0 x.1.0 x.1.1.0

abbrev pub of4 {ℓ} : {Z : Type ℓ} {A B C D : Type 0} → (A → B → C → D → Z) → A × (B × (C × (D × Unit {0}))) → Z
of4 g x = g x.0 x.1.0 x.1.1.0 x.1.1.1.0

abbrev pub of5 {ℓ} : {Z : Type ℓ} {A B C D E : Type 0} → (A → B → C → D → E → Z) → A × (B × (C × (D × (E × Unit {0})))) → Z
of5 g x = g x.0 x.1.0 x.1.1.0 x.1.1.1.0 x.1.1.1.1.0

abbrev pub of6 {ℓ} : {Z : Type ℓ} {A B C D E F : Type 0} → (A → B → C → D → E → F → Z) → A × (B × (C × (D × (E × (F × Unit {0}))))) → Z
of6 g x = g x.0 x.1.0 x.1.1.0 x.1.1.1.0 x.1.1.1.1.0 x.1.1.1.1.1.0

-- ---- by document 01's groups

pub record Ids : Type 0 where
  pub build : Gives build-ext-id.Post (of3 build_ext_id)
  pub parts : Gives ext-id-parts.Post (of1 ext_id_parts)

pub record Parameters : Type 0 where
  pub parameter : Gives parameter-info.Post (of1 parameter_info)
  pub parameter-named : Gives parameter-name.Post (of1 parameter_name)
  pub protocol-named : Gives protocol-name.Post (of1 protocol_name)
  pub encode-read : Gives encode-parameter-read.Post (of1 encode_parameter_read)
  pub encode-write : Gives encode-parameter-write.Post (of2 encode_parameter_write)
  pub encode-value : Gives encode-parameter-value.Post (of2 encode_parameter_value)
  pub decode-value : Gives decode-read-parameter-value.Post (of2 decode_read_parameter_value)
  pub value-of : Gives of-kind.Post (of2 value_as)
  pub kind : Gives value-kind.Post (of1 kind_in)
  pub raw : Gives value-raw.Post (of1 raw_of)
  pub mode-from : Gives from-raw.Post (of1 control_mode_from_raw)
  pub mode-to : Gives mode-number.Post (of1 control_mode_number)
  pub byte : Gives byte-of.Post (of1 (λ v. of_z w8 v))
  pub signed : Gives signed-of.Post (of1 (λ b. to_z w8 b))

-- a name is any bytes, lent; `now` is what they are
pub record MotionValues : Type 0 where
  pub name : Means model-name.Post (of1 (λ model r. r.now ≡ model_text model))
  pub named : Gives model-named.Post (of1 (λ name. model_named name.now))
  pub limits-named : Gives model-limits.Post (of1 (λ name. model_limits name.now))
  pub limits : Gives limits-of.Post (of1 limits_of)
  pub motion : Gives motion-raw.Post (of2 motion_raw)
  pub gain : Gives gain-raw.Post (of2 gain_raw)
  pub command : Gives encode-mit-command.Post (of6 encode_mit_command)
  pub float : Gives value-reads.Post (of1 value_of)
  pub word : Gives word-of.Post (of1 word_of)

pub record StatusValues : Type 0 where
  pub value : Gives status-value.Post (of2 status_value)
  pub degrees : Gives temperature.Post (of1 temperature_of)
  pub status : Gives decode-status-frame.Post (of3 decode_status_frame)
  pub fault : Gives decode-fault-report.Post (of1 decode_fault_report)
  pub ping : Gives decode-ping-reply.Post (of2 decode_ping_reply)
  pub ping-parts : Gives ping-reply.Post (of2 ping_reply_of)
  pub is-version : Gives is-version-reply.Post (of2 is_version_reply)
  pub version : Gives decode-version-reply.Post (of2 decode_version_reply)
  pub ask-version : Gives encode-version-request.Post (of0 encode_version_request)

-- the 96 records on any value, and what they mean: the list l that they hold, and the two chains ls
pub record ReadingRules : Type 0 where
  pub none : Gives empty-reads.Post (of0 empty_readings)
  pub none-held : Means empty-reads.Post (of0 (λ r. Rep r at_first))
  pub find : Gives find-reads.Post (of2 find_of)
  pub find-held : Means find-reads.Post (of2 (λ rs id r. (l : List Entry) → Holds rs l → r ≡ lookup id l))
  pub put : Gives put-reads.Post (of3 put_of)
  pub put-held : Means put-reads.Post (of3 (λ rs id v r. (ls : Lists) → Rep rs ls → Puts rs ls id v r))
  pub drop : Gives drop-id.Post (of2 drop_id)
  pub drop-held : Means drop-id.Post (of2 (λ rs id r. (ls : Lists) → Rep rs ls → Rep r (drop_in id ls)))
  pub listed : Gives listed-reads.Post (of1 listed_of)
  pub listed-held : Means listed-reads.Post (of1 (λ rs r. (l : List Entry) → Holds rs l → r ≡ listing l))

-- on any motor, and, where its readings are the list l, as the lone motor
pub record ReceiveRules : Type 0 where
  pub readings : ReadingRules
  pub accepted : Gives accepts-frame.Post (of2 accepts_frame)
  pub arrival : Gives arrival-of.Post (of1 arrival_of)
  pub heard : Gives process-feedback-frame.Post (of3 process_feedback_frame)
  pub quiet : Gives hear-state.Post (of3 hear_state)
  pub edits : Gives hear-read.Post (of3 hear_read)
  pub as-lone : Means process-feedback-frame.Post (of3 (λ m f time r. (l : List Entry) → Holds m.readings l → HeardAs r (hears (lone_of m l) f time)))

pub record Operations : Type 0 where
  pub numbers : Gives number.Post (of1 number_of)
  pub candidates : Gives host-candidates.Post (of1 host_candidates)
  pub no-frame : Gives no-frame-reads.Post (of0 no_frame)
  pub no-operation : Gives no-operation-reads.Post (of0 no_operation)
  pub protocol : Gives validate-protocol-cmd.Post (of1 validate_protocol_cmd)
  pub set-protocol : Gives encode-set-protocol.Post (of1 encode_set_protocol)
  pub begins : Gives begin-at.Post (of3 (λ s time c. in_time time (begun_by s time c)))
  pub advances : Gives advance-at.Post (of4 (λ s time op f. in_time time (advanced s time op f op.phase)))
  pub admission-of : Gives registration-of.Post (of5 registration_of)
  pub admission : Gives registration-reads.Post (of5 (λ id host name wait time. registration_of id host (model_named name.now) wait time))
  pub new : Gives new-reads.Post (of5 new_motor)
  pub new-as-lone : Means new-reads.Post (of5 (λ id host model wait time r. Holds r.readings []))
  pub start : Gives start-reads.Post (of3 start_of)
  pub start-as-lone : Means start-reads.Post (of3 (λ m c time r. (l : List Entry) → Holds m.readings l → AnsweredAs r (lone_start (lone_of m l) c time)))
  pub step : Gives step-reads.Post (of2 step_of)
  pub step-as-lone : Means step-reads.Post (of2 (λ m time r. (l : List Entry) → Holds m.readings l → AnsweredAs r (lone_step (lone_of m l) time)))
  pub look : Gives look-reads.Post (of1 look_of)
  pub look-as-lone : Means look-reads.Post (of1 (λ m r. (l : List Entry) → Holds m.readings l → r ≡ lone_look (lone_of m l)))
  pub removal : Gives removal-reads.Post (of2 removal_of)

-- ---- nothing is asked of a caller

pub record CodecAsks : Type 2 where
  pub build : AsksNothing build-ext-id.requires
  pub parts : AsksNothing ext-id-parts.requires
  pub parameter : AsksNothing parameter-info.requires
  pub parameter-named : AsksNothing parameter-name.requires
  pub protocol-named : AsksNothing protocol-name.requires
  pub encode-read : AsksNothing encode-parameter-read.requires
  pub encode-write : AsksNothing encode-parameter-write.requires
  pub encode-value : AsksNothing encode-parameter-value.requires
  pub decode-value : AsksNothing decode-read-parameter-value.requires
  pub value-of : AsksNothing of-kind.requires
  pub kind : AsksNothing value-kind.requires
  pub raw : AsksNothing value-raw.requires
  pub mode-from : AsksNothing from-raw.requires
  pub mode-to : AsksNothing mode-number.requires
  pub byte : AsksNothing byte-of.requires
  pub signed : AsksNothing signed-of.requires
  pub name : AsksNothing model-name.requires
  pub named : AsksNothing model-named.requires
  pub limits-named : AsksNothing model-limits.requires
  pub limits : AsksNothing limits-of.requires
  pub motion : AsksNothing motion-raw.requires
  pub gain : AsksNothing gain-raw.requires
  pub command : AsksNothing encode-mit-command.requires
  pub float : AsksNothing value-reads.requires
  pub word : AsksNothing word-of.requires
  pub value : AsksNothing status-value.requires
  pub degrees : AsksNothing temperature.requires
  pub status : AsksNothing decode-status-frame.requires
  pub fault : AsksNothing decode-fault-report.requires
  pub ping : AsksNothing decode-ping-reply.requires
  pub ping-parts : AsksNothing ping-reply.requires
  pub is-version : AsksNothing is-version-reply.requires
  pub version : AsksNothing decode-version-reply.requires
  pub ask-version : AsksNothing encode-version-request.requires
  pub numbers : AsksNothing number.requires
  pub protocol : AsksNothing validate-protocol-cmd.requires
  pub set-protocol : AsksNothing encode-set-protocol.requires

-- the thin receive call has no `Reads`: its clauses themselves
abbrev thin_asks : Lfts 1 → MutBor Motor × (CanFrame × (ℕ × Unit {0})) → Unit {0} → (w : World) → Pr w
thin_asks k x g w = (thin.clauses w.𝓛 w.𝓜.mem w.𝓡.run k x).requires g

pub record MotorAsks : Type 2 where
  pub none : AsksNothing empty-reads.requires
  pub find : AsksNothing find-reads.requires
  pub put : AsksNothing put-reads.requires
  pub drop : AsksNothing drop-id.requires
  pub listed : AsksNothing listed-reads.requires
  pub accepted : AsksNothing accepts-frame.requires
  pub arrival : AsksNothing arrival-of.requires
  pub heard : AsksNothing process-feedback-frame.requires
  pub quiet : AsksNothing hear-state.requires
  pub edits : AsksNothing hear-read.requires
  pub candidates : AsksNothing host-candidates.requires
  pub no-frame : AsksNothing no-frame-reads.requires
  pub no-operation : AsksNothing no-operation-reads.requires
  pub begins : AsksNothing begin-at.requires
  pub advances : AsksNothing advance-at.requires
  pub admission-of : AsksNothing registration-of.requires
  pub admission : AsksNothing registration-reads.requires
  pub new : AsksNothing new-reads.requires
  pub start : AsksNothing start-reads.requires
  pub step : AsksNothing step-reads.requires
  pub look : AsksNothing look-reads.requires
  pub removal : AsksNothing removal-reads.requires
  pub thin-heard : AsksNothing thin_asks

-- ---- the thin receive call

-- what is said, and the motor at exit, are those of the by-value call
abbrev pub ThinHeard : Motor → CanFrame → ℕ → Result ⊤ Refusal → Motor → Type 0
ThinHeard m f time r end = (r ≡ (process_feedback_frame m f time).said) × (end ≡ (process_feedback_frame m f time).motor)

pub record ThinRules : Type 2 where
  pub heard : (w : World) (k : Lfts 1) (m end : MutBor Motor) (f : CanFrame) (time : ℕ) (r : Result ⊤ Refusal)
      → (thin.clauses w.𝓛 w.𝓜.mem w.𝓡.run k (m, (f, (time, tt)))).ensures tt r (end, (f, (time, tt)))
      ≡ fact w.𝓤 (ThinHeard m.now f time r end.now)
