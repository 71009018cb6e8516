-- What the program prints of a job that is done.
use Rattle.std.specs.Prelude.{ℕ, List, [], ◌∷◌, ◌++◌, length, true, codes, Option, Some, flat_map}
use Rattle.std.specs.Fmt.{decimal}
use Rattle.hex.specs.Hex.{encode_lower}
use Rattle.smp_cbor.specs.Values.{Value, unsigned, octets, text, boolean, map}
use Rattle.smp_cbor.specs.Views.{look_up}
use Rattle.smp_reply.specs.Told as told
use Rattle.smp_reply.specs.Told.{Told, Entries, pairs_in}
use Rattle.smp_jobs.specs.Jobs.{Job, uploads, lists, sets, puts, gets, echoes, got}

abbrev pub word_if : List ℕ → Option Value → List ℕ
word_if word (Some (boolean true)) = codes " " ++ word
word_if word value = []

abbrev pub words_of : Entries → List ℕ
words_of ps = flat_map (λ word. word_if word (look_up word ps)) (codes "bootable" ∷ codes "pending" ∷ codes "confirmed" ∷ codes "active" ∷ codes "permanent" ∷ [])

-- slot, version and hash, and the words that are true; nothing where one of the three is missing
abbrev pub entry_line : Option Value → Option Value → Option Value → Entries → List ℕ
entry_line (Some (unsigned slot)) (Some (text version)) (Some (octets hash)) ps =
    decimal slot ++ codes " " ++ version ++ codes " " ++ encode_lower hash ++ words_of ps ++ codes "\n"
entry_line slot version hash ps = []

abbrev pub entry_of : Entries → List ℕ
entry_of ps = entry_line (look_up (codes "slot") ps) (look_up (codes "version") ps) (look_up (codes "hash") ps) ps

abbrev pub value_line : Value → List ℕ
value_line (map ps) = entry_of (pairs_in ps)
value_line v = []

abbrev pub listed : List Told → List ℕ
listed (told.images entries ∷ earlier) = flat_map value_line entries
listed answers = []

abbrev pub echoed : List Told → List ℕ
echoed (told.echo t ∷ earlier) = t ++ codes "\n"
echoed answers = []

-- by the answers, the newest first
abbrev pub result : Job → List Told → List ℕ
result (uploads j) answers = codes "done " ++ decimal (length j.file) ++ codes "\n"
result lists answers = listed answers
result (sets settings) answers = codes "saved\n"
result (puts name file) answers = codes "stored " ++ decimal (length file) ++ codes "\n"
result (gets name) answers = (got answers).held
result (echoes words) answers = echoed answers
