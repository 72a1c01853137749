-- The replies, as bytes. Document 01, "Opening" and "In a session".
-- Assumes nothing.
use Rattle.std.specs.Prelude.{ℕ, min, false, List, eqb, length}
use Rattle.numbers.specs.Bytes.{pick}
use Rattle.numbers.specs.Numbers.{bytes_be}
use Rattle.frame.specs.declared.Header.{Header}
use Rattle.frame.specs.declared.ServiceType.{ServiceType}
use Rattle.frame.specs.declared.SessionId.{SessionId}
use Rattle.frame.specs.declared.MessageId.{MessageId}
use Rattle.frame.specs.Write.{frame_bytes}
use Rattle.payload.specs.Reply.{ack_payload, service_ack_payload}
use Rattle.payload.specs.declared.version.Version.{Version}
use Rattle.session.specs.Rows.{no_session_id, no_message_id}

-- a reply's header: a control frame without flag
abbrev pub reply_header : ℕ → ServiceType → ℕ → SessionId → ℕ → MessageId → Header
reply_header version service info session size message = record {
  version = version;
  flag = false;
  kind = 0;
  service = service;
  info = info;
  session = session;
  size = size;
  message = message;
}

abbrev pub reply_bytes : ℕ → ServiceType → ℕ → SessionId → MessageId → List ℕ → List ℕ
reply_bytes version service info session message payload = frame_bytes (reply_header version service info session (length payload) message) payload

-- the infos of replies, from document 000's table: Start Service ACK and NAK, End Service ACK and NAK, Heartbeat ACK
abbrev pub start_ack : ℕ
start_ack = 0x02

abbrev pub start_nak : ℕ
start_nak = 0x03

abbrev pub end_ack : ℕ
end_ack = 0x05

abbrev pub end_nak : ℕ
end_nak = 0x06

abbrev pub beat_ack : ℕ
beat_ack = 0xFF

-- service 07
abbrev pub rpc : ServiceType
rpc = record { 0 = 0x07 }

-- "Each session keeps a message counter for its ACKs: first 1"
abbrev pub first_message_id : MessageId
first_message_id = record { 0 = 1 }

-- "reply ACK with header version min(M, 4) and the hash as 4 raw bytes, most significant first"
abbrev pub old_ack : ℕ → SessionId → ℕ → List ℕ
old_ack major session hash = reply_bytes (min major 4) rpc start_ack session first_message_id (bytes_be 4 hash)

-- "the ACK has header version 5 and a payload of hashId (int32), mtu (int64), protocolVersion (string)"
abbrev pub new_ack : SessionId → ℕ → ℕ → Version → List ℕ
new_ack session hash mtu v = reply_bytes 5 rpc start_ack session first_message_id (ack_payload hash mtu v)

-- "NAKs of opening: header version min(M, 4), session 0, message id 0."
abbrev pub opening_nak : ℕ → List ℕ → List ℕ
opening_nak major payload = reply_bytes (min major 4) rpc start_nak no_session_id no_message_id payload

-- a service's ACK: "(version 5: hashId, mtu; below: raw hash)"
unfoldable pub granted_payload : ℕ → ℕ → ℕ → List ℕ
granted_payload version hash mtu = pick (eqb version 5) (service_ack_payload hash mtu) (bytes_be 4 hash)
