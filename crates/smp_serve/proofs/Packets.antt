-- Packets that a device is given.
use Rattle.std.proofs.Common.{◌≡◌, List, [], ◌∷◌, ◌++◌, ℕ, Option, Some, None, Result, Ok, Err, refl, ap, sym, ◌∙◌, subst, append_assoc}
use Rattle.std.proofs.lemmas.List.{append-nil}
use Rattle.smp_flash.specs.State.{FlashState}
use Rattle.smp_header.specs.Message.{packet}
use Rattle.smp_upload.specs.declared.states.UploadFault.{UploadFault}
use Rattle.smp_device.specs.Handling.{DeviceState, Handles}
use Rattle.smp_device.specs.Starting.{Restarts}
use Rattle.smp_device.specs.Up.{IsWhole}
use Rattle.smp_device.specs.declared.answering.Down.{Down}
use Rattle.smp_device.specs.declared.answering.Handled.{Handled}
use Rattle.smp_device.specs.declared.answering.Handled.TheVariants as handleds
use Rattle.smp_serve.specs.Sessions.{Exchange, HandlesAt, Passes, Point, Serves, StartsAt, exchange, no_packet, one_packet, point}
use Rattle.smp_serve.proofs.Handlings.{handled_alike}

pub handled_at : (bytes out : List ℕ) (r : Result Handled Down) (x h : Handled) (old new : DeviceState) (a b : FlashState) → r ≡ Ok x → x ≡ h
    → Handles bytes old new out r a b → new.places ≡ old.places → IsWhole new.places new.up new.settings → HandlesAt bytes out (Ok h) (point old a) (point new b)
handled_at bytes out r x h old new a b is named handles places whole = record {
  handles = subst (λ (y : Handled). Handles bytes old new out (Ok y) a b) named (subst (λ (y : Result Handled Down). Handles bytes old new out y a b) is handles);
  places = places;
  whole = whole;
}

pub fell_at : (bytes out : List ℕ) (r : Result Handled Down) (down : Down) (old new : DeviceState) (a b : FlashState) → r ≡ Err down
    → Handles bytes old new out r a b → new.places ≡ old.places → IsWhole new.places new.up new.settings → HandlesAt bytes out (Err down) (point old a) (point new b)
fell_at bytes out r down old new a b is handles places whole = record {
  handles = subst (λ (y : Result Handled Down). Handles bytes old new out y a b) is handles;
  places = places;
  whole = whole;
}

pub started_at : (r s : Result (Unit {0}) UploadFault) (old new : DeviceState) (a b : FlashState) → r ≡ s
    → Restarts r old.places new a b → new.places ≡ old.places → IsWhole new.places new.up new.settings → StartsAt s (point old a) (point new b)
started_at r s old new a b is restarts places whole = record {
  restarts = subst (λ (y : Result (Unit {0}) UploadFault). Restarts y old.places new a b) is restarts;
  places = places;
  whole = whole;
}

pub passes_dropped : (bytes out : List ℕ) (a b : Point) → HandlesAt bytes out (Ok handleds.Dropped) a b → Passes (exchange bytes None) a b
passes_dropped bytes out a b h = record { handled = handleds.Dropped; out = out; middle = b; handles = h; reply = refl; starts = refl }

pub passes_replied : (bytes out : List ℕ) (a b : Point) → HandlesAt bytes out (Ok handleds.Reply) a b → Passes (exchange bytes (Some out)) a b
passes_replied bytes out a b h = record { handled = handleds.Reply; out = out; middle = b; handles = h; reply = refl; starts = refl }

pub passes_reset : (bytes out : List ℕ) (a m b : Point) → HandlesAt bytes out (Ok handleds.ReplyThenReset) a m → StartsAt (Ok tt) m b → Passes (exchange bytes (Some out)) a b
passes_reset bytes out a m b h s = record { handled = handleds.ReplyThenReset; out = out; middle = m; handles = h; reply = refl; starts = s }

-- bytes that are the same packet
pub at_alike : (bytes others out : List ℕ) (r : Result Handled Down) (a b : Point) → packet others ≡ packet bytes → HandlesAt bytes out r a b → HandlesAt others out r a b
at_alike bytes others out r a b same h = record {
  handles = handled_alike bytes others a.device b.device out r a.flash b.flash same h.handles;
  places = h.places;
  whole = h.whole;
}

pub passes_alike : (bytes others : List ℕ) (reply : Option (List ℕ)) (a b : Point) → packet others ≡ packet bytes → Passes (exchange bytes reply) a b → Passes (exchange others reply) a b
passes_alike bytes others reply a b same p = record {
  handled = p.handled;
  out = p.out;
  middle = p.middle;
  handles = at_alike bytes others p.out (Ok p.handled) a p.middle same p.handles;
  reply = p.reply;
  starts = p.starts;
}

-- in a row
pub serves_nothing : (a : Point) → Serves a [] a
serves_nothing a = no_packet a a [] refl refl

pub serves_one : (a b : Point) (x : Exchange) → Passes x a b → Serves a (x ∷ []) b
serves_one a b x p = one_packet a a b [] (x ∷ []) x (serves_nothing a) p refl

pub serves_more : (a b c : Point) (xs ys : List Exchange) → Serves a xs b → Serves b ys c → Serves a (xs ++ ys) c
serves_more a b c xs ys h (no_packet b' c' ys' none same) =
    subst (λ (p : Point). Serves a (xs ++ ys') p) (sym same) (subst (λ (l : List Exchange). Serves a l b') (sym (append-nil xs) ∙ ap (λ (l : List Exchange). xs ++ l) (sym none)) h)
serves_more a b c xs ys h (one_packet b' m c' earlier ys' x before passes is) =
    one_packet a m c' (xs ++ earlier) (xs ++ ys') x (serves_more a b' m xs earlier h before) passes (ap (λ (l : List Exchange). xs ++ l) is ∙ sym (append_assoc xs earlier (x ∷ [])))
