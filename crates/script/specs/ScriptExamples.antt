-- What the lines of a script print (docs/DESK-LINES.md), computed.
use Rattle.std.specs.Prelude.{ℕ, ◌≡◌, refl, List, [], ◌∷◌, ◌++◌, map, replicate, None, Some}
use Rattle.words.specs.Lists.{same_bytes}
use Rattle.words.specs.Bytes.{be_at}
use Rattle.text.specs.Text.{digit_value, digits_from, decimal_of, longer, fields_of, hex_of, byte_then}
use Rattle.lines.specs.Lines.{lines_of}
use Rattle.window.specs.PasswordAt.{PasswordRule}
use Rattle.row.specs.Table.{has_serial, first_row, find_row, located}
use Rattle.desk.specs.Requests.{table_ok, request_ok}
use Rattle.desk.specs.Desk.{served_at, desk_after}
use Rattle.desk.specs.Reads.{read_after}
use Rattle.message.specs.Message.{items_at, items_end, all_plain, lengths_add_up, attributes_plain, message_at, frame_fits, frame_of, mac_fits}
use Rattle.message_calls.specs.Serving.{service_of, count_of, content_of, only_these, misfits, call_for, message_reads}
use Rattle.call_lines.specs.LineExamples.{head_digits, serial_digits, message_text}
use Rattle.call_lines.specs.Line.{name_of, fields_read, message_in, message_line, reads_of, code_text, values_text, answer_text, line_after}
use Rattle.script.specs.Script.{hex_text, rows_text, rows_of, later_line, served, served_all, output_of}

-- rows,N
abbrev rows_line : List ℕ → List ℕ
rows_line n = 0x72 ∷ 0x6f ∷ 0x77 ∷ 0x73 ∷ 0x2c ∷ n

abbrev table_line : List ℕ
table_line = 0x74 ∷ 0x61 ∷ 0x62 ∷ 0x6c ∷ 0x65 ∷ []

-- N of 1 and 256; none of no number, 0, 257 and 01
pub rows-asked : map (λ n. rows_of (rows_line n)) ((0x31 ∷ []) ∷ (0x32 ∷ 0x35 ∷ 0x36 ∷ []) ∷ [] ∷ (0x30 ∷ []) ∷ (0x32 ∷ 0x35 ∷ 0x37 ∷ []) ∷ (0x30 ∷ 0x31 ∷ []) ∷ [])
    ≡ Some 1 ∷ Some 256 ∷ None ∷ None ∷ None ∷ None ∷ []
unfolding rows_of same_bytes digit_value digits_from decimal_of
rows-asked = refl

-- of a byte the higher digit first, in small letters; behind a row a line feed
pub row-printed : rows_text 1 (0x9a ∷ 0x0f ∷ replicate 94 0) ≡ 0x39 ∷ 0x61 ∷ 0x30 ∷ 0x66 ∷ (replicate 188 0x30 ++ (0x0a ∷ []))
unfolding hex_text rows_text
row-printed = refl

-- rows,1, then table, rows,1 and table without a line feed: a `rows` line behind the first is no call
pub script_printed : (passwords : PasswordRule)
    → output_of passwords (rows_line (0x31 ∷ 0x0a ∷ []) ++ (table_line ++ (0x0a ∷ rows_line (0x31 ∷ 0x0a ∷ table_line))))
    ≡ replicate 192 0x30 ++ (0x0a ∷ 0x39 ∷ 0x30 ∷ 0x30 ∷ 0x35 ∷ 0x0a ∷ (replicate 192 0x30 ++ (0x0a ∷ [])))
unfolding output_of lines_of longer served_all served rows_of same_bytes digit_value digits_from decimal_of later_line hex_text rows_text line_after read_after reads_of name_of fields_read fields_of answer_text code_text values_text
script_printed passwords = refl

-- table, then rows,1: without a first `rows` line there is no table
pub tableless_printed : (passwords : PasswordRule) → output_of passwords (table_line ++ (0x0a ∷ rows_line (0x31 ∷ []))) ≡ 0x39 ∷ 0x30 ∷ 0x30 ∷ 0x35 ∷ 0x0a ∷ []
unfolding output_of lines_of longer served_all served rows_of same_bytes later_line rows_text line_after read_after reads_of name_of fields_read fields_of answer_text code_text values_text
tableless_printed passwords = refl

-- rows,1, then messages at 60: a query of serial 7, no bytes, and one digit; the first is a call
pub messages_printed : (passwords : PasswordRule)
    → output_of passwords (rows_line (0x31 ∷ 0x0a ∷ (message_text (head_digits ++ (0x30 ∷ 0x31 ∷ 0x30 ∷ 0x62 ∷ (serial_digits (0x30 ∷ 0x37 ∷ [])))) ++ (0x0a ∷ (message_text [] ++ (0x0a ∷ message_text (0x30 ∷ [])))))))
    ≡ 0x38 ∷ 0x34 ∷ 0x30 ∷ 0x32 ∷ 0x0a ∷ 0x39 ∷ 0x30 ∷ 0x30 ∷ 0x31 ∷ 0x0a ∷ 0x39 ∷ 0x30 ∷ 0x30 ∷ 0x35 ∷ 0x0a ∷ []
unfolding output_of lines_of longer served_all served rows_of same_bytes digit_value digits_from decimal_of later_line line_after read_after reads_of name_of fields_read fields_of answer_text code_text values_text
    message_in message_line hex_of byte_then message_reads frame_of frame_fits lengths_add_up attributes_plain message_at items_at items_end all_plain service_of count_of content_of only_these misfits call_for mac_fits be_at
    desk_after table_ok request_ok served_at located find_row first_row has_serial
messages_printed passwords = refl
