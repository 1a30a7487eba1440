-- Reading and writing undo each other, and what is not written.
use Rattle.std.specs.Prelude.{ℕ, ◌≡◌, refl, true, false, List, ◌++◌, leb, length, take, drop, Ok}
use Rattle.std.proofs.Common.{sym, ap, ◌∙◌, arith, leb-true, leb-false, take_at, drop_at}
use Rattle.words.specs.ListsLaws.{same_refl}
use Rattle.words.specs.BoolLaws.{by-test, clash}
use Rattle.message.specs.Message.{Message, marked, head_bytes, body_bytes, mac_of, mac_fits}
use Rattle.message.specs.Reading.{MessageRead, read_of}
use Rattle.message.specs.Writing.{message_bytes, kind_named, rising, writable}
use Rattle.message.specs.Promise.{WriteRead, ReadWrite, BytesTell, Unwritable, WriteRefuses}
use Rattle.message.proofs.ReadLaws.{length-head, without_mac_lem, length_mac, frame_written, kind-written, read_exactly, mac_exactly}
use Rattle.message.proofs.ReadCodesLaws.{read_codes}
use Rattle.message.proofs.WritableLaws.{fits-holds, writable_rises, writable-fits, written-whole, written-short, written_not}

-- ---- what is written is read

-- the MAC of a message stands in its bytes and fits
mac_fits-written : (m : Message) → writable m ≡ true → mac_fits (message_bytes m) ≡ true
unfolding message_bytes mac_fits mac_of
mac_fits-written m t =
    let kind = kind-written (mac_of m) m in
    by-test (marked m.kind)
    (λ sealed. let body = mac_of m ++ body_bytes m in
    let behind : drop 21 (head_bytes m ++ body) ≡ body = drop_at (head_bytes m) body 21 (length-head m) in
    let mac : take 4 body ≡ mac_of m = take_at (mac_of m) (body_bytes m) 4 (length_mac m) in
    rw (kind, sealed, behind, mac, without_mac_lem m (mac_of m) (length_mac m)) (same_refl (mac_of m)))
    (λ plain. rw (kind, plain))

pub write_read : WriteRead
unfolding message_bytes
write_read m t = ((read_codes (message_bytes m)).1.1 m).1 (frame_written (mac_of m) m (writable-fits m t), mac_fits-written m t)

-- ---- what is read was written so

pub read_write : ReadWrite
unfolding message_bytes
read_write s m bytes e =
    let c = ((read_codes s).1.1 m).0 e in
    let r = (read_exactly s m bytes).0 c.0 in
    let mac = r.0 in
    let whole = r.1.1 in
    by-test (marked m.kind)
    (λ sealed. let fits = (mac_exactly s m bytes c.0 sealed).0 c.1 in
    let plain : s ≡ head_bytes m ++ (mac ++ body_bytes m) = rw sealed at whole in
    let behind : drop 21 s ≡ mac ++ body_bytes m = ap (drop 21) plain ∙ drop_at (head_bytes m) (mac ++ body_bytes m) 21 (length-head m) in
    let there : take 4 (drop 21 s) ≡ mac = rw behind (take_at mac (body_bytes m) 4 (r.1.0.four sealed)) in
    let same : mac_of m ≡ mac = sym fits ∙ there in
    rw (sealed, same) (sym plain))
    (λ plain. let bare = rw plain at whole in rw plain (sym bare))

pub bytes_tell : BytesTell
bytes_tell m m' t t' = (
  λ e. ap message_bytes e,
  λ e. let one = write_read m t in
      let other = write_read m' t' in
      let both : ◌≡◌ {A = MessageRead} (Ok m) (Ok m') = sym one ∙ ap read_of e ∙ other in
      cc,
)

-- ---- what is not written

unwritable : (m : Message) (out : List ℕ) → writable m ≡ false → Unwritable m out
unfolding writable
unwritable m out f =
    by-test (kind_named m)
    (λ named. by-test (rising m) (λ rises. Unwritable.cannot_hold (rw (named, rises) at f)) Unwritable.not_rising)
    Unwritable.type_not_named

module _ (m : Message) (out : List ℕ) (t : writable m ≡ true) (room : leb (length (message_bytes m)) (length out) ≡ true) where
  nothing_against : Unwritable m out → ⊥
  nothing_against (Unwritable.type_not_named f) = clash (writable-fits m t).named f
  nothing_against (Unwritable.not_rising f) = clash (writable_rises m t) f
  nothing_against (Unwritable.cannot_hold f) = clash (fits-holds m (mac_of m) (writable-fits m t)) f
  nothing_against (Unwritable.too_short l) = let r = leb-true (length (message_bytes m)) (length out) room in omega arith

pub write_refuses : WriteRefuses
write_refuses m out =
    by-test (writable m)
    (λ t. by-test (leb (length (message_bytes m)) (length out))
    (λ room. rw (written-whole m out t (leb-true (length (message_bytes m)) (length out) room))
    (λ e. absurd (omega arith), λ u. absurd (nothing_against m out t room u)))
    (λ short. let l = leb-false (length (message_bytes m)) (length out) short in rw (written-short m out t l) (λ e. Unwritable.too_short l, λ u. refl)))
    (λ f. rw (written_not m out f) (λ e. unwritable m out f, λ u. refl))
