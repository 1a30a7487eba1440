-- The layout (document 01, Part 4), by one literal row of 96 bytes in which no two numbers are alike: what is read of it, what a row of these numbers is
-- in bytes, and where the stores go. Two offsets exchanged in definition and code together show here.
use Rattle.std.specs.Prelude.{ℕ, ◌≡◌, refl, List, [], ◌∷◌, ◌++◌, replicate, Some}
use Rattle.words.specs.Bytes.{be_at, be_bytes, put_be}
use Rattle.row.specs.declared.Row.{Row}
use Rattle.row.specs.Row.{row_at, key_at, before_key, step_bytes, time_bytes, render}
use Rattle.row.specs.Table.{has_serial, first_row, find_row, find_empty, store_row, wipe_key, write_row}

-- offsets 0 to 15: state, kind, algorithm, digits, period, limit, errors, key length, serial
abbrev pub head_bytes : List ℕ
head_bytes = 0x01 ∷ 0x02 ∷ 0x03 ∷ 0x04 ∷ 0x05 ∷ 0x06 ∷ 0x07 ∷ 0x08 ∷ 0x10 ∷ 0x11 ∷ 0x12 ∷ 0x13 ∷ 0x14 ∷ 0x15 ∷ 0x16 ∷ 0x17 ∷ []

-- 16 to 47: the key
abbrev pub key_literal : List ℕ
key_literal =
    0x20 ∷ 0x21 ∷ 0x22 ∷ 0x23 ∷ 0x24 ∷ 0x25 ∷ 0x26 ∷ 0x27 ∷ 0x28 ∷ 0x29 ∷ 0x2a ∷ 0x2b ∷ 0x2c ∷ 0x2d ∷ 0x2e ∷ 0x2f
    ∷ 0x30 ∷ 0x31 ∷ 0x32 ∷ 0x33 ∷ 0x34 ∷ 0x35 ∷ 0x36 ∷ 0x37 ∷ 0x38 ∷ 0x39 ∷ 0x3a ∷ 0x3b ∷ 0x3c ∷ 0x3d ∷ 0x3e ∷ 0x3f ∷ []

-- 48 to 71: next, d + 600, two zeros, wait, expiry
abbrev pub middle_bytes : List ℕ
middle_bytes =
    0x40 ∷ 0x41 ∷ 0x42 ∷ 0x43 ∷ 0x44 ∷ 0x45 ∷ 0x46 ∷ 0x47 ∷ 0x50 ∷ 0x51 ∷ 0x00 ∷ 0x00 ∷ 0x60 ∷ 0x61 ∷ 0x62 ∷ 0x63
    ∷ 0x70 ∷ 0x71 ∷ 0x72 ∷ 0x73 ∷ 0x74 ∷ 0x75 ∷ 0x76 ∷ 0x77 ∷ []

-- 72 to 95: locked at, last use, eight zeros
abbrev pub last_bytes : List ℕ
last_bytes =
    0x80 ∷ 0x81 ∷ 0x82 ∷ 0x83 ∷ 0x84 ∷ 0x85 ∷ 0x86 ∷ 0x87 ∷ 0x90 ∷ 0x91 ∷ 0x92 ∷ 0x93 ∷ 0x94 ∷ 0x95 ∷ 0x96 ∷ 0x97
    ∷ 0x00 ∷ 0x00 ∷ 0x00 ∷ 0x00 ∷ 0x00 ∷ 0x00 ∷ 0x00 ∷ 0x00 ∷ []

abbrev pub literal_row : List ℕ
literal_row = head_bytes ++ (key_literal ++ (middle_bytes ++ last_bytes))

abbrev pub literal_numbers : Row
literal_numbers =
    record {
      state = 1;
      track = record {
        scheme = record { kind = 2; algorithm = 3; digits = 4 };
        period = 5;
        next = record { 0 = 0x4041424344454647 };
        offset = record { 0 = 0x5051 };
      };
      limit = 6;
      errors = 7;
      key_length = 8;
      serial = 0x1011121314151617;
      wait = 0x60616263;
      expiry = record { 0 = 0x7071727374757677 };
      locked_at = record { 0 = 0x8081828384858687 };
      last_use = record { 0 = 0x9091929394959697 };
    }

-- the literal row as the second of three; the first is not empty, and the third is
abbrev pub three_rows : List ℕ
three_rows = replicate 96 0xee ++ (literal_row ++ replicate 96 0)

pub layout_read : row_at three_rows 96 ≡ literal_numbers
unfolding row_at be_at
layout_read = refl

pub layout_key : key_at three_rows 96 ≡ key_literal
layout_key = refl

pub layout_rendered : render literal_numbers key_literal ≡ literal_row
unfolding render before_key step_bytes time_bytes be_bytes
layout_rendered = refl

pub layout_found : find_row 96 three_rows 0x1011121314151617 ≡ Some 96
unfolding find_row first_row has_serial be_at
layout_found = refl

pub layout_empty : find_empty 96 three_rows ≡ Some 192
unfolding find_empty first_row
layout_empty = refl

-- wider rows, with 32 bytes behind the layout
abbrev pub three_wide_rows : List ℕ
three_wide_rows = replicate 128 0xee ++ ((literal_row ++ replicate 32 0xdd) ++ replicate 128 0)

pub layout_found_wide : find_row 128 three_wide_rows 0x1011121314151617 ≡ Some 128
unfolding find_row first_row has_serial be_at
layout_found_wide = refl

pub layout_empty_wide : find_empty 128 three_wide_rows ≡ Some 256
unfolding find_empty first_row
layout_empty_wide = refl

-- what calls store: state, errors, next, d + 600, locked at and last use, each with numbers of its own
abbrev pub stored_numbers : Row
stored_numbers =
    record {
      state = 0xa0;
      track = record {
        scheme = record { kind = 0xff; algorithm = 0xff; digits = 0xff };
        period = 0xff;
        next = record { 0 = 0xb0b1b2b3b4b5b6b7 };
        offset = record { 0 = 0xc0c1 };
      };
      limit = 0xff;
      errors = 0xa6;
      key_length = 0xff;
      serial = 0xff;
      wait = 0xff;
      expiry = record { 0 = 0xff };
      locked_at = record { 0 = 0xd0d1d2d3d4d5d6d7 };
      last_use = record { 0 = 0xe0e1e2e3e4e5e6e7 };
    }

abbrev pub stored_head : List ℕ
stored_head = 0xa0 ∷ 0x02 ∷ 0x03 ∷ 0x04 ∷ 0x05 ∷ 0x06 ∷ 0xa6 ∷ 0x08 ∷ 0x10 ∷ 0x11 ∷ 0x12 ∷ 0x13 ∷ 0x14 ∷ 0x15 ∷ 0x16 ∷ 0x17 ∷ []

abbrev pub stored_middle : List ℕ
stored_middle =
    0xb0 ∷ 0xb1 ∷ 0xb2 ∷ 0xb3 ∷ 0xb4 ∷ 0xb5 ∷ 0xb6 ∷ 0xb7 ∷ 0xc0 ∷ 0xc1 ∷ 0x00 ∷ 0x00 ∷ 0x60 ∷ 0x61 ∷ 0x62 ∷ 0x63
    ∷ 0x70 ∷ 0x71 ∷ 0x72 ∷ 0x73 ∷ 0x74 ∷ 0x75 ∷ 0x76 ∷ 0x77 ∷ []

abbrev pub stored_last : List ℕ
stored_last =
    0xd0 ∷ 0xd1 ∷ 0xd2 ∷ 0xd3 ∷ 0xd4 ∷ 0xd5 ∷ 0xd6 ∷ 0xd7 ∷ 0xe0 ∷ 0xe1 ∷ 0xe2 ∷ 0xe3 ∷ 0xe4 ∷ 0xe5 ∷ 0xe6 ∷ 0xe7
    ∷ 0x00 ∷ 0x00 ∷ 0x00 ∷ 0x00 ∷ 0x00 ∷ 0x00 ∷ 0x00 ∷ 0x00 ∷ []

pub layout_stored : store_row three_rows 96 stored_numbers ≡ replicate 96 0xee ++ ((stored_head ++ (key_literal ++ (stored_middle ++ stored_last))) ++ replicate 96 0)
unfolding store_row put_be
layout_stored = refl

pub layout_wiped : wipe_key three_rows 96 ≡ replicate 96 0xee ++ ((head_bytes ++ (replicate 32 0 ++ (middle_bytes ++ last_bytes))) ++ replicate 96 0)
unfolding wipe_key
layout_wiped = refl

-- all bytes of the third row, with zeros behind a key of two bytes
pub layout_written : write_row three_rows 192 literal_numbers (0xf0 ∷ 0xf1 ∷ [])
    ≡ replicate 96 0xee ++ (literal_row ++ (head_bytes ++ ((0xf0 ∷ 0xf1 ∷ replicate 30 0) ++ (middle_bytes ++ last_bytes))))
unfolding write_row render before_key step_bytes time_bytes be_bytes
layout_written = refl
