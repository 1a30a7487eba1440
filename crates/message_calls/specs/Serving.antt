-- Serving a message (document 02, Ask 1): 9001, then 9002, then 9004, then whatever its call says.
use Rattle.std.specs.Prelude.{ℕ, suc, Bool, true, false, ◌&&◌, ◌||◌, not, cond, List, [], ◌∷◌, eqb, length, Option, Some, None}
use Rattle.words.specs.Lists.{one_of}
use Rattle.words.specs.Bytes.{be_at}
use Rattle.token.specs.declared.answers.Refusal.{Refusal}
use Rattle.desk.specs.Requests.{DeskCall, login_call, challenge_call, activate_call, lock_call, unlock_call, suspend_call, resume_call, sync_call, void_call, query_call}
use Rattle.desk.specs.Reads.{Reads}
use Rattle.message.specs.Message.{Item, Message, is_reply, frame_of, mac_fits}
use Rattle.message_calls.specs.declared.services.Service.{Service}

-- ---- services and items

-- the services of Table D.5 that have a call
unfoldable pub service_of : ℕ → Option Service
service_of n =
    cond (eqb n 0x0001) (Some Service.Login)
    (cond (eqb n 0x0002) (Some Service.ChallengeLogin)
    (cond (eqb n 0x0101) (Some Service.Activate)
    (cond (eqb n 0x0102) (Some Service.Lock)
    (cond (eqb n 0x0103) (Some Service.Unlock)
    (cond (eqb n 0x0104) (Some Service.Suspend)
    (cond (eqb n 0x0105) (Some Service.Resume)
    (cond (eqb n 0x0108) (Some Service.Sync)
    (cond (eqb n 0x010a) (Some Service.Void)
    (cond (eqb n 0x010b) (Some Service.Query)
    None)))))))))

-- serial, password and next password, challenge and response (Table D.6)
abbrev pub serial_item : ℕ
serial_item = 0x0002

abbrev pub password_item : ℕ
password_item = 0x0003

abbrev pub following_item : ℕ
following_item = 0x0004

abbrev pub challenge_item : ℕ
challenge_item = 0x0006

abbrev pub response_item : ℕ
response_item = 0x0007

-- the items of a call
abbrev pub items_of : Service → List ℕ
items_of Service.Login = serial_item ∷ password_item ∷ []
items_of Service.ChallengeLogin = serial_item ∷ challenge_item ∷ response_item ∷ []
items_of Service.Activate = serial_item ∷ password_item ∷ following_item ∷ []
items_of Service.Lock = serial_item ∷ []
items_of Service.Unlock = serial_item ∷ password_item ∷ []
items_of Service.Suspend = serial_item ∷ []
items_of Service.Resume = serial_item ∷ password_item ∷ []
items_of Service.Sync = serial_item ∷ password_item ∷ following_item ∷ []
items_of Service.Void = serial_item ∷ []
items_of Service.Query = serial_item ∷ []

-- sync's options are 1 or 2, all others 0
abbrev pub options_of : Service → List ℕ
options_of Service.Login = 0 ∷ []
options_of Service.ChallengeLogin = 0 ∷ []
options_of Service.Activate = 0 ∷ []
options_of Service.Lock = 0 ∷ []
options_of Service.Unlock = 0 ∷ []
options_of Service.Suspend = 0 ∷ []
options_of Service.Resume = 0 ∷ []
options_of Service.Sync = 1 ∷ 2 ∷ []
options_of Service.Void = 0 ∷ []
options_of Service.Query = 0 ∷ []

abbrev pub has_call : Option Service → Bool
has_call None = false
has_call (Some service) = true

-- of a service without a call none
abbrev pub in_call : (Service → List ℕ) → Option Service → List ℕ
in_call f None = []
in_call f (Some service) = f service

-- ---- what a call needs of a message

-- how many items have an identifier
unfoldable pub count_of : ℕ → List Item → ℕ
count_of id [] = 0
count_of id (i ∷ items) = cond (eqb i.identifier id) (suc (count_of id items)) (count_of id items)

-- the content of the first that has it
unfoldable pub content_of : ℕ → List Item → List ℕ
content_of id [] = []
content_of id (i ∷ items) = cond (eqb i.identifier id) i.content (content_of id items)

abbrev pub each_once : List ℕ → List Item → Bool
each_once [] items = true
each_once (id ∷ ids) items = eqb (count_of id items) 1 && each_once ids items

-- these items, each once in any order, and no other
unfoldable pub only_these : List ℕ → List Item → Bool
only_these ids items = eqb (length items) (length ids) && each_once ids items

abbrev pub options_fit : Message → Bool
options_fit m = one_of m.options (in_call options_of (service_of m.service))

abbrev pub items_fit : Message → Bool
items_fit m = only_these (in_call items_of (service_of m.service)) m.items

abbrev pub serial_fits : Message → Bool
serial_fits m = eqb (length (content_of serial_item m.items)) 8

-- judged only if the service has a call
unfoldable pub misfits : Message → Bool
misfits m = has_call (service_of m.service) && not (options_fit m && (items_fit m && serial_fits m))

-- ---- the call

abbrev pub serial_of : Message → ℕ
serial_of m = be_at 8 (content_of serial_item m.items) 0

-- at a clock reading of whoever runs the reader
unfoldable pub call_of : Service → Message → ℕ → DeskCall
call_of Service.Login m clock = login_call (content_of password_item m.items) (serial_of m) clock
call_of Service.ChallengeLogin m clock =
    challenge_call (content_of challenge_item m.items) (content_of response_item m.items) (serial_of m) clock
call_of Service.Activate m clock =
    activate_call (content_of password_item m.items) (content_of following_item m.items) (serial_of m) clock
call_of Service.Lock m clock = lock_call (serial_of m) clock
call_of Service.Unlock m clock = unlock_call (content_of password_item m.items) (serial_of m) clock
call_of Service.Suspend m clock = suspend_call (serial_of m) clock
call_of Service.Resume m clock = resume_call (content_of password_item m.items) (serial_of m) clock
call_of Service.Sync m clock =
    sync_call m.options (content_of password_item m.items) (content_of following_item m.items) (serial_of m) clock
call_of Service.Void m clock = void_call (serial_of m) clock
call_of Service.Query m clock = query_call (serial_of m) clock

-- a service without a call is 9004
abbrev pub call_for : Option Service → Message → ℕ → Reads
call_for None m clock = Reads.refuses Refusal.NoService
call_for (Some service) m clock = Reads.serves (call_of service m clock)

abbrev pub framed : List ℕ → ℕ → Option Message → Reads
framed s clock None = Reads.refuses Refusal.BadMessage
framed s clock (Some m) =
    cond (is_reply m.kind || misfits m) (Reads.refuses Refusal.BadMessage)
    (cond (mac_fits s) (call_for (service_of m.service) m clock) (Reads.refuses Refusal.BadMac))

-- what bytes that are sent come to
unfoldable pub message_reads : List ℕ → ℕ → Reads
message_reads s clock = framed s clock (frame_of s)
