-- The end of an item (RFC 8949, sections 3.1 to 3.4): the bytes after it, or the first fault in it, without its value.
use Rattle.std.specs.Prelude.{ℕ, zero, suc, List, [], ◌∷◌, length, take, drop, Bool, true, false, ◌&&◌, Option, Some, None, is_none, Result, Ok, Err, nat_lt, ◌==◌, if◌then◌else◌}
use Rattle.std.specs.Str.{is_utf8}
use Rattle.smp_cbor.specs.declared.fault.CborKind.{CborKind}
use Rattle.smp_cbor.specs.declared.fault.CborKind.TheVariants as kinds
use Rattle.smp_cbor.specs.declared.fault.Stop.{Stop}
use Rattle.smp_cbor.specs.declared.heads.Head.{Head}
use Rattle.smp_cbor.specs.declared.heads.Head.TheVariants as heads
use Rattle.smp_cbor.specs.Heads.{◌>>=◌, head_at}

-- a fault, by the number of bytes from its head to the end
abbrev pub stop_at : List ℕ → CborKind → Stop
stop_at b k = record { left = length b; kind = k }

-- a fault of a head gets its place
abbrev pub placed : {A : Type 0} → List ℕ → Result A CborKind → Result A Stop
placed b (Ok x) = Ok x
placed b (Err k) = Err (stop_at b k)

-- n bytes and those after them, behind a head at start
unfoldable pub octets_at : List ℕ → ℕ → List ℕ → Result (List ℕ × List ℕ) Stop
octets_at start n rest = if nat_lt (length rest) n then Err (stop_at start kinds.Short) else Ok (take n rest, drop n rest)

-- n bytes of UTF-8 (RFC 3629) and those after them: the length is tested before the content
unfoldable pub text_at : List ℕ → ℕ → List ℕ → Result (List ℕ × List ℕ) Stop
text_at start n rest = octets_at start n rest >>= λ x. if is_utf8 x.0 then Ok x else Err (stop_at start kinds.NotUtf8)

-- a break stands here
abbrev pub begins_break : List ℕ → Bool
begins_break [] = false
begins_break (b ∷ rest) = b == 255

-- how many entries to try: the count, or one a byte
abbrev pub turns : Option ℕ → List ℕ → ℕ
turns (Some n) b = n
turns None b = length b

-- the bytes after something, or the first fault in it
abbrev pub Skip : Type 0
Skip = List ℕ → Result (List ℕ) Stop

-- an item of a list, or a key and its value
abbrev pub entry : Bool → Skip → Skip
entry pairs skip b = skip b >>= λ r. if pairs then skip r else Ok r

-- so many entries, or entries up to a break
unfoldable pub skips : Bool → Skip → ℕ → Skip
skips until one zero b = if until then Err (stop_at b kinds.Short) else Ok b
skips until one (suc k) b = if until && begins_break b then Ok (drop 1 b) else (one b >>= skips until one k)

-- the entries of a list or a map
abbrev pub skip_entries_at : Skip → Bool → Option ℕ → Skip
skip_entries_at skip pairs count b = skips (is_none count) (entry pairs skip) (turns count b) b

-- what follows a head; inner skips an item one level deeper, and there is none where no level may open
abbrev pub skip_body : Option Skip → List ℕ → Head → Skip
skip_body inner b (heads.Unsigned n) r = Ok r
skip_body inner b (heads.Negative n) r = Ok r
skip_body inner b (heads.Octets n) r = octets_at b n r >>= λ x. Ok x.1
skip_body inner b (heads.Text n) r = text_at b n r >>= λ x. Ok x.1
skip_body None b (heads.List count) r = Err (stop_at b kinds.Deep)
skip_body (Some skip) b (heads.List count) r = skip_entries_at skip false count r
skip_body None b (heads.Map count) r = Err (stop_at b kinds.Deep)
skip_body (Some skip) b (heads.Map count) r = skip_entries_at skip true count r
skip_body None b heads.Tag r = Err (stop_at b kinds.Deep)
skip_body (Some skip) b heads.Tag r = skip r
skip_body inner b (heads.Bool v) r = Ok r
skip_body inner b heads.Null r = Ok r
skip_body inner b heads.Other r = Ok r

-- the bytes after an item in which so many levels may open
unfoldable pub skip_at : ℕ → Skip
skip_at zero b = placed b (head_at b) >>= λ h. skip_body None b h.0 h.1
skip_at (suc d) b = placed b (head_at b) >>= λ h. skip_body (Some (skip_at d)) b h.0 h.1
