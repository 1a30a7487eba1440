-- How the code finds the items of a call.
use Rattle.std.specs.Prelude.{ℕ, Bool, ◌&&◌, cond, List, ltb, Option, Some, None}
use Rattle.words.specs.Lists.{one_of}
use Rattle.message.specs.Message.{Item, Message}
use Rattle.message_calls.specs.declared.services.Service.{Service}
use Rattle.message_calls.specs.Serving.{options_of, items_of, only_these, count_of, serial_fits, serial_of}

abbrev pub has : ℕ → List Item → Bool
has id items = ltb 0 (count_of id items)

-- the serial, where it has 8 bytes
abbrev pub serial_in : Message → Option ℕ
serial_in m = cond (serial_fits m) (Some (serial_of m)) None

-- what a call needs
abbrev pub fits : Service → Message → Bool
fits service m = one_of m.options (options_of service) && (only_these (items_of service) m.items && serial_fits m)
