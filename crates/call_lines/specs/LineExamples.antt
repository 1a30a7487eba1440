-- Worked examples, computed.
use Rattle.token.specs.Answers.{successful}
use Rattle.std.specs.Prelude.{ℕ, ◌≡◌, refl, List, [], ◌∷◌, ◌++◌, map, Err}
use Rattle.words.specs.Lists.{same_bytes}
use Rattle.words.specs.Bytes.{be_at}
use Rattle.text.specs.Text.{digit_value, digits_from, decimal_of, byte_then, hex_of, longer, fields_of}
use Rattle.otp.specs.Typed.{as_password}
use Rattle.token.specs.declared.answers.Content.{Content}
use Rattle.token.specs.declared.answers.Refusal.{Refusal}
use Rattle.token.specs.declared.lines.Request.{Request}
use Rattle.token.specs.Lines.{line_of}
use Rattle.token.specs.Codes.{signed_of, values_of}
use Rattle.desk.specs.Requests.{DeskCall, login_call, challenge_call, lock_call, sync_call, query_call}
use Rattle.desk.specs.Reads.{Reads}
use Rattle.message.specs.Message.{items_at, items_end, all_plain, lengths_add_up, attributes_plain, message_at, frame_fits, frame_of, mac_fits}
use Rattle.message_calls.specs.Serving.{service_of, count_of, content_of, only_these, misfits, call_for, message_reads}
use Rattle.call_lines.specs.Line.{name_of, not_made, particulars_of, load_line, challenge_line, sync_line, call_by, fields_read, message_in, message_line, reads_of, code_text, decimal_digits, values_text, answer_text}

-- ---- calls

-- lock,7,60
pub lock-line : reads_of (0x6c ∷ 0x6f ∷ 0x63 ∷ 0x6b ∷ 0x2c ∷ 0x37 ∷ 0x2c ∷ 0x36 ∷ 0x30 ∷ []) ≡ Reads.serves (lock_call 7 60)
unfolding name_of call_by fields_read reads_of same_bytes longer fields_of digit_value digits_from decimal_of
lock-line = refl

-- login,7,123456,60
pub login-line : reads_of (0x6c ∷ 0x6f ∷ 0x67 ∷ 0x69 ∷ 0x6e ∷ 0x2c ∷ 0x37 ∷ 0x2c ∷ 0x31 ∷ 0x32 ∷ 0x33 ∷ 0x34 ∷ 0x35 ∷ 0x36 ∷ 0x2c ∷ 0x36 ∷ 0x30 ∷ []) ≡ Reads.serves (login_call (0x31 ∷ 0x32 ∷ 0x33 ∷ 0x34 ∷ 0x35 ∷ 0x36 ∷ []) 7 60)
unfolding name_of call_by fields_read reads_of same_bytes longer fields_of digit_value digits_from decimal_of
login-line = refl

-- challenge,7,41626364,123456,60
pub challenge-line : reads_of (0x63 ∷ 0x68 ∷ 0x61 ∷ 0x6c ∷ 0x6c ∷ 0x65 ∷ 0x6e ∷ 0x67 ∷ 0x65 ∷ 0x2c ∷ 0x37 ∷ 0x2c ∷ 0x34 ∷ 0x31 ∷ 0x36 ∷ 0x32 ∷ 0x36 ∷ 0x33 ∷ 0x36 ∷ 0x34 ∷ 0x2c ∷ 0x31 ∷ 0x32 ∷ 0x33 ∷ 0x34 ∷ 0x35 ∷ 0x36 ∷ 0x2c ∷ 0x36 ∷ 0x30 ∷ []) ≡ Reads.serves (challenge_call (0x41 ∷ 0x62 ∷ 0x63 ∷ 0x64 ∷ []) (0x31 ∷ 0x32 ∷ 0x33 ∷ 0x34 ∷ 0x35 ∷ 0x36 ∷ []) 7 60)
unfolding name_of call_by fields_read reads_of same_bytes longer fields_of digit_value digits_from decimal_of challenge_line hex_of byte_then
challenge-line = refl

-- sync,7,2,123456,654321,60
pub sync-line : reads_of (0x73 ∷ 0x79 ∷ 0x6e ∷ 0x63 ∷ 0x2c ∷ 0x37 ∷ 0x2c ∷ 0x32 ∷ 0x2c ∷ 0x31 ∷ 0x32 ∷ 0x33 ∷ 0x34 ∷ 0x35 ∷ 0x36 ∷ 0x2c ∷ 0x36 ∷ 0x35 ∷ 0x34 ∷ 0x33 ∷ 0x32 ∷ 0x31 ∷ 0x2c ∷ 0x36 ∷ 0x30 ∷ []) ≡ Reads.serves (sync_call 2 (0x31 ∷ 0x32 ∷ 0x33 ∷ 0x34 ∷ 0x35 ∷ 0x36 ∷ []) (0x36 ∷ 0x35 ∷ 0x34 ∷ 0x33 ∷ 0x32 ∷ 0x31 ∷ []) 7 60)
unfolding name_of call_by fields_read reads_of same_bytes longer fields_of digit_value digits_from decimal_of sync_line
sync-line = refl

-- load,7,0,3,6,60,5,0aB0,600,99
pub load_line_lem : reads_of (0x6c ∷ 0x6f ∷ 0x61 ∷ 0x64 ∷ 0x2c ∷ 0x37 ∷ 0x2c ∷ 0x30 ∷ 0x2c ∷ 0x33 ∷ 0x2c ∷ 0x36 ∷ 0x2c ∷ 0x36 ∷ 0x30 ∷ 0x2c ∷ 0x35 ∷ 0x2c ∷ 0x30 ∷ 0x61 ∷ 0x42 ∷ 0x30 ∷ 0x2c ∷ 0x36 ∷ 0x30 ∷ 0x30 ∷ 0x2c ∷ 0x39 ∷ 0x39 ∷ []) ≡
    Reads.serves
    (DeskCall.load
    (record {
      serial = 7;
      scheme = record { kind = 0; algorithm = 3; digits = 6 };
      period = 60;
      limit = 5;
      wait = 600;
      expiry = record { 0 = 99 };
    })
    (0x0a ∷ 0xb0 ∷ []))
unfolding name_of call_by fields_read reads_of same_bytes longer fields_of digit_value digits_from decimal_of particulars_of load_line hex_of byte_then
load_line_lem = refl

-- ---- messages

-- 15 00 01, caller 0, call number 12345678 and 17 bytes of body, in digits
abbrev pub head_digits : List ℕ
head_digits =
    0x31 ∷ 0x35 ∷ 0x30 ∷ 0x30 ∷ 0x30 ∷ 0x31
    ∷ 0x30 ∷ 0x30 ∷ 0x30 ∷ 0x30 ∷ 0x30 ∷ 0x30 ∷ 0x30 ∷ 0x30 ∷ 0x30 ∷ 0x30 ∷ 0x30 ∷ 0x30 ∷ 0x30 ∷ 0x30 ∷ 0x30 ∷ 0x30
    ∷ 0x33 ∷ 0x31 ∷ 0x33 ∷ 0x32 ∷ 0x33 ∷ 0x33 ∷ 0x33 ∷ 0x34 ∷ 0x33 ∷ 0x35 ∷ 0x33 ∷ 0x36 ∷ 0x33 ∷ 0x37 ∷ 0x33 ∷ 0x38
    ∷ 0x30 ∷ 0x30 ∷ 0x31 ∷ 0x31 ∷ []

-- one item, serial, of 8 bytes: the digits of a body behind its service
abbrev pub serial_digits : List ℕ → List ℕ
serial_digits last =
    0x30 ∷ 0x30 ∷ 0x30 ∷ 0x30 ∷ 0x30 ∷ 0x31
    ∷ (0x30 ∷ 0x30 ∷ 0x30 ∷ 0x30 ∷ 0x30 ∷ 0x32 ∷ 0x30 ∷ 0x38 ∷ 0x30 ∷ 0x30 ∷ 0x30 ∷ 0x30 ∷ 0x30 ∷ 0x30 ∷ 0x30 ∷ 0x30 ∷ 0x30 ∷ 0x30 ∷ 0x30 ∷ 0x30 ∷ 0x30 ∷ 0x30
    ∷ last)

-- message,HEX,60
abbrev pub message_text : List ℕ → List ℕ
message_text digits = 0x6d ∷ 0x65 ∷ 0x73 ∷ 0x73 ∷ 0x61 ∷ 0x67 ∷ 0x65 ∷ 0x2c ∷ (digits ++ (0x2c ∷ 0x36 ∷ 0x30 ∷ []))

-- lock (0102) of serial 7
pub lock-message : reads_of (message_text (head_digits ++ (0x30 ∷ 0x31 ∷ 0x30 ∷ 0x32 ∷ (serial_digits (0x30 ∷ 0x37 ∷ []))))) ≡ Reads.serves (lock_call 7 60)
unfolding name_of call_by fields_read message_in message_line reads_of same_bytes longer fields_of digit_value digits_from decimal_of hex_of byte_then
    message_reads frame_of frame_fits lengths_add_up attributes_plain message_at items_at items_end all_plain service_of count_of content_of only_these misfits call_for mac_fits be_at
lock-message = refl

-- query (010B) of serial 0xAB, with large letters
pub query-message : reads_of (message_text (head_digits ++ (0x30 ∷ 0x31 ∷ 0x30 ∷ 0x42 ∷ (serial_digits (0x41 ∷ 0x42 ∷ []))))) ≡ Reads.serves (query_call 0xab 60)
unfolding name_of call_by fields_read message_in message_line reads_of same_bytes longer fields_of digit_value digits_from decimal_of hex_of byte_then
    message_reads frame_of frame_fits lengths_add_up attributes_plain message_at items_at items_end all_plain service_of count_of content_of only_these misfits call_for mac_fits be_at
query-message = refl

-- the lock with a digit less
pub odd_message : reads_of (message_text (head_digits ++ (0x30 ∷ 0x31 ∷ 0x30 ∷ 0x32 ∷ (serial_digits (0x37 ∷ []))))) ≡ not_made
unfolding name_of call_by fields_read message_in message_line reads_of same_bytes longer fields_of digit_value digits_from decimal_of hex_of byte_then
    message_reads frame_of frame_fits lengths_add_up attributes_plain message_at items_at items_end all_plain service_of count_of content_of only_these misfits call_for mac_fits be_at
odd_message = refl

-- message,,60: a message of no bytes
pub empty-message : reads_of (message_text []) ≡ Reads.refuses Refusal.BadMessage
unfolding name_of call_by fields_read message_in message_line reads_of same_bytes longer fields_of digit_value digits_from decimal_of hex_of byte_then
    message_reads frame_of frame_fits lengths_add_up attributes_plain message_at items_at items_end all_plain service_of count_of content_of only_these misfits call_for mac_fits be_at
empty-message = refl

-- message,60 and message,,60, and message,,06: a field missing, one more, a leading zero
pub message-fields : map reads_of ((0x6d ∷ 0x65 ∷ 0x73 ∷ 0x73 ∷ 0x61 ∷ 0x67 ∷ 0x65 ∷ 0x2c ∷ 0x36 ∷ 0x30 ∷ []) ∷ (0x6d ∷ 0x65 ∷ 0x73 ∷ 0x73 ∷ 0x61 ∷ 0x67 ∷ 0x65 ∷ 0x2c ∷ 0x2c ∷ 0x36 ∷ 0x30 ∷ 0x2c ∷ []) ∷ (0x6d ∷ 0x65 ∷ 0x73 ∷ 0x73 ∷ 0x61 ∷ 0x67 ∷ 0x65 ∷ 0x2c ∷ 0x2c ∷ 0x30 ∷ 0x36 ∷ []) ∷ []) ≡ not_made ∷ not_made ∷ not_made ∷ []
unfolding name_of call_by fields_read message_in message_line reads_of same_bytes longer fields_of digit_value digits_from decimal_of hex_of byte_then
    message_reads frame_of frame_fits lengths_add_up attributes_plain message_at items_at items_end all_plain service_of count_of content_of only_these misfits call_for mac_fits be_at
message-fields = refl

-- ---- lines that are not so made

-- load,7,300,3,6,60,5,0aB0,600,99: KIND is a byte
pub kind_too_large : reads_of (0x6c ∷ 0x6f ∷ 0x61 ∷ 0x64 ∷ 0x2c ∷ 0x37 ∷ 0x2c ∷ 0x33 ∷ 0x30 ∷ 0x30 ∷ 0x2c ∷ 0x33 ∷ 0x2c ∷ 0x36 ∷ 0x2c ∷ 0x36 ∷ 0x30 ∷ 0x2c ∷ 0x35 ∷ 0x2c ∷ 0x30 ∷ 0x61 ∷ 0x42 ∷ 0x30 ∷ 0x2c ∷ 0x36 ∷ 0x30 ∷ 0x30 ∷ 0x2c ∷ 0x39 ∷ 0x39 ∷ []) ≡ not_made
unfolding name_of call_by fields_read reads_of same_bytes longer fields_of digit_value digits_from decimal_of particulars_of load_line
kind_too_large = refl

-- lock,07,60
pub leading_zero : reads_of (0x6c ∷ 0x6f ∷ 0x63 ∷ 0x6b ∷ 0x2c ∷ 0x30 ∷ 0x37 ∷ 0x2c ∷ 0x36 ∷ 0x30 ∷ []) ≡ not_made
unfolding name_of call_by fields_read reads_of same_bytes longer fields_of digit_value digits_from decimal_of
leading_zero = refl

-- lock,7
pub field_missing : reads_of (0x6c ∷ 0x6f ∷ 0x63 ∷ 0x6b ∷ 0x2c ∷ 0x37 ∷ []) ≡ not_made
unfolding name_of call_by fields_read reads_of same_bytes longer fields_of digit_value digits_from decimal_of
field_missing = refl

-- lock,7,60,
pub field_more : reads_of (0x6c ∷ 0x6f ∷ 0x63 ∷ 0x6b ∷ 0x2c ∷ 0x37 ∷ 0x2c ∷ 0x36 ∷ 0x30 ∷ 0x2c ∷ []) ≡ not_made
unfolding name_of call_by fields_read reads_of same_bytes longer fields_of digit_value digits_from decimal_of
field_more = refl

-- Lock,7,60
pub name_unknown : reads_of (0x4c ∷ 0x6f ∷ 0x63 ∷ 0x6b ∷ 0x2c ∷ 0x37 ∷ 0x2c ∷ 0x36 ∷ 0x30 ∷ []) ≡ not_made
unfolding name_of call_by fields_read reads_of same_bytes longer fields_of digit_value digits_from decimal_of
name_unknown = refl

-- ---- answers

-- 9001, 9002 and 9004
pub message_texts : map answer_text (map Err (Refusal.BadMessage ∷ Refusal.BadMac ∷ Refusal.NoService ∷ []))
    ≡ (0x39 ∷ 0x30 ∷ 0x30 ∷ 0x31 ∷ []) ∷ (0x39 ∷ 0x30 ∷ 0x30 ∷ 0x32 ∷ []) ∷ (0x39 ∷ 0x30 ∷ 0x30 ∷ 0x34 ∷ []) ∷ []
unfolding answer_text code_text values_text
message_texts = refl

-- 9005
pub bad_argument_text : answer_text (Err Refusal.BadArgument) ≡ 0x39 ∷ 0x30 ∷ 0x30 ∷ 0x35 ∷ []
unfolding answer_text code_text values_text
bad_argument_text = refl

-- 010a
pub void-text : answer_text (successful (line_of Request.Void).success Content.Plain) ≡ 0x30 ∷ 0x31 ∷ 0x30 ∷ 0x61 ∷ []
unfolding answer_text code_text values_text values_of
void-text = refl

-- 0001,27,-1
pub login-text : answer_text (successful (line_of (Request.Login (as_password []))).success (Content.Checked (record { 0 = 27 }) (record { 0 = 599 }))) ≡ 0x30 ∷ 0x30 ∷ 0x30 ∷ 0x31 ∷ 0x2c ∷ 0x32 ∷ 0x37 ∷ 0x2c ∷ 0x2d ∷ 0x31 ∷ []
unfolding answer_text code_text values_text values_of signed_of decimal_digits
login-text = refl

-- 010b,2,0,1650
pub query-text : answer_text (successful (line_of Request.Query).success (Content.Queried (record { state = 2; errors = 0; last_use = record { 0 = 1650 } }))) ≡ 0x30 ∷ 0x31 ∷ 0x30 ∷ 0x62 ∷ 0x2c ∷ 0x32 ∷ 0x2c ∷ 0x30 ∷ 0x2c ∷ 0x31 ∷ 0x36 ∷ 0x35 ∷ 0x30 ∷ []
unfolding answer_text code_text values_text values_of decimal_digits
query-text = refl
