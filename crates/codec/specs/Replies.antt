-- The protocol command, ping replies and version replies. Definitions only.
use Rattle.std.specs.Prelude.{ℕ, ◌%◌, Bool, cond, ◌&&◌, List, [], ◌∷◌, eqb, ltb, get_or, Result, Ok, Err, ⊤}
use Rattle.codec.specs.declared.error.Refusal.{Refusal}
use Rattle.codec.specs.declared.protocol.IdParts.{IdParts}
use Rattle.codec.specs.declared.replies.PingReply.{PingReply}
use Rattle.codec.specs.declared.replies.VersionReply.{VersionReply}
use Rattle.codec.specs.Numbers.{refusal_of, checked_of, answered_by}
use Rattle.codec.specs.Ids.{type_of, extra_of, ext_id_parts}

abbrev pub zeros : List ℕ
zeros = 0 ∷ 0 ∷ 0 ∷ 0 ∷ 0 ∷ 0 ∷ 0 ∷ 0 ∷ []

-- 12: protocol not 0..2
abbrev pub validate_protocol_cmd : ℕ → Result ⊤ Refusal
validate_protocol_cmd p = answered_by (λ n. checked_of n []) ((ltb 2 p, 12) ∷ [])

abbrev pub set_protocol_by : Result ⊤ Refusal → ℕ → Result (List ℕ) Refusal
set_protocol_by (Ok tt) p = Ok (1 ∷ 2 ∷ 3 ∷ 4 ∷ 5 ∷ 6 ∷ p ∷ 0 ∷ [])
set_protocol_by (Err r) p = Err r

abbrev pub encode_set_protocol : ℕ → Result (List ℕ) Refusal
encode_set_protocol p = set_protocol_by (validate_protocol_cmd p) p

-- ---- version

abbrev pub encode_version_request : List ℕ
encode_version_request = 0 ∷ 0xC4 ∷ 0 ∷ 0 ∷ 0 ∷ 0 ∷ 0 ∷ 0 ∷ []

-- type 2, and a payload that begins 00 C4 56
abbrev pub is_version_reply : ℕ → List ℕ → Bool
is_version_reply id payload = eqb (type_of id) 2 && (eqb (get_or payload 0 0) 0 && (eqb (get_or payload 1 0) 0xC4 && eqb (get_or payload 2 0) 0x56))

abbrev pub version_reply : ℕ → List ℕ → VersionReply
version_reply id payload =
    record { device_id = extra_of id % 256; version = get_or payload 3 0 ∷ get_or payload 4 0 ∷ get_or payload 5 0 ∷ get_or payload 6 0 ∷ [] }

-- 23: not a version reply
abbrev pub decode_version_reply : ℕ → List ℕ → Result VersionReply Refusal
decode_version_reply id payload = cond (is_version_reply id payload) (Ok (version_reply id payload)) (Err (refusal_of 23 []))

abbrev pub blank_version : VersionReply
blank_version = record { device_id = 0; version = 0 ∷ 0 ∷ 0 ∷ 0 ∷ [] }

-- ---- ping

-- by the parts of its id
abbrev pub ping_reply_of : IdParts → List ℕ → PingReply
ping_reply_of p payload = record { device_id = p.extra_data % 256; responder_id = p.node_id; payload = payload }

-- 22: not a ping reply
abbrev pub decode_ping_reply : ℕ → List ℕ → Result PingReply Refusal
decode_ping_reply id payload = cond (eqb (type_of id) 0) (Ok (ping_reply_of (ext_id_parts id) payload)) (Err (refusal_of 22 []))

abbrev pub blank_ping : PingReply
blank_ping = record { device_id = 0; responder_id = 0; payload = zeros }
