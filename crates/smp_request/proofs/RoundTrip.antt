-- A request that is written means that request.
use Rattle.std.proofs.Common.{◌≡◌, ℕ, ◌^◌, ◌<◌, ◌≤◌, List, Bool, true, false, Option, Some, None, Ok, refl, length, arith, ap, ◌∙◌}
use Rattle.std.specs.Prelude.{option_map, nat_lt}
use Rattle.std.proofs.lemmas.Bool.Decides.{nat_tests}
use Rattle.smp_header.specs.Message.{packet}
use Rattle.smp_cbor.specs.Heads.{◌>>=◌}
use Rattle.smp_cbor.specs.Values.{unsigned, map_of}
use Rattle.smp_cbor.specs.Shortest.{shortest}
use Rattle.smp_cbor.specs.Laws.{ShortestIsRead}
use Rattle.smp_model.specs.Table.{number, words, bytes, truth, a_number, a_text, some_bytes, a_truth, required, optional, counts_as, always, table, name_at, operation_of}
use Rattle.smp_model.specs.Meant.{Meant, echo, reset, parameters, image_list, image_set, upload, erase, stat_group, stat_list, setting_read, setting_write, setting_delete, commit, load, save, file_read, file_write, file_status, file_hash, file_types, file_close, name_of, fields_of, made}
use Rattle.smp_model.specs.Meaning.{field, by_need, fields, by_row, meaning}
use Rattle.smp_model.specs.Written.{field_value, written_field, written_pairs, request_value, request_message, request_bytes}
use Rattle.smp_request.specs.Held.{CanHold, CanHoldEach}
use Rattle.smp_request.proofs.Again.{number_again, words_again, bytes_again}
use Rattle.smp_request.proofs.Rows.{named_again, sound_keys, is_small}
use Rattle.smp_request.proofs.FieldsAgain.{AreFields, fields_back, written_has}
use Rattle.smp_model.specs.Keys.{KeysAreTexts}
use Rattle.smp_model.specs.Packets.{PacketsAreReadBack}
use Rattle.smp_header.specs.declared.TheConstants.{LARGEST_PACKET}

-- each request is made of its fields
made_back : (m : Meant) → made (name_of m) (fields_of m) ≡ Some m
made_back (echo t) = refl
made_back reset = refl
made_back parameters = refl
made_back image_list = refl
made_back (image_set hash confirm) = rw (bytes_again hash) refl
made_back (upload image len off sha part) = rw (number_again image, number_again len, bytes_again sha) refl
made_back (erase slot) = refl
made_back (stat_group name) = refl
made_back stat_list = refl
made_back (setting_read name size) = rw (number_again size) refl
made_back (setting_write name val) = refl
made_back (setting_delete name) = refl
made_back commit = refl
made_back load = refl
made_back save = refl
made_back (file_read off name) = refl
made_back (file_write off part len name) = rw (number_again len) refl
made_back (file_status name) = refl
made_back (file_hash name kind off len) = rw (words_again kind, number_again len) refl
made_back file_types = refl
made_back file_close = refl

number_read : (n : ℕ) → n < 2 ^ 32 → field a_number (Some (unsigned n)) ≡ Ok (Some (number n))
number_read n lt = let t : nat_lt n (2 ^ 32) ≡ true = grind (arith, nat_tests) in rw t refl

required_number : (n : ℕ) → n < 2 ^ 32 → (field a_number (Some (unsigned n)) >>= by_need required) ≡ Ok (Some (number n))
required_number n lt = rw (number_read n lt) refl

always_number : (d n : ℕ) → n < 2 ^ 32 → (field a_number (Some (unsigned n)) >>= by_need (always (number d))) ≡ Ok (Some (number n))
always_number d n lt = rw (number_read n lt) refl

optional_number : (o : Option ℕ) → CanHold (option_map number o) → (field a_number (option_map field_value (written_field optional (option_map number o))) >>= by_need optional) ≡ Ok (option_map number o)
optional_number None can = refl
optional_number (Some n) can = rw (number_read n can) refl

optional_bytes : (o : Option (List ℕ)) → (field some_bytes (option_map field_value (written_field optional (option_map bytes o))) >>= by_need optional) ≡ Ok (option_map bytes o)
optional_bytes None = refl
optional_bytes (Some b) = refl

optional_words : (o : Option (List ℕ)) → (field a_text (option_map field_value (written_field optional (option_map words o))) >>= by_need optional) ≡ Ok (option_map words o)
optional_words None = refl
optional_words (Some t) = refl

confirm_truth : (b : Bool) → (field a_truth (option_map field_value (written_field (counts_as (truth false)) (Some (truth b)))) >>= by_need (counts_as (truth false))) ≡ Ok (Some (truth b))
confirm_truth true = refl
confirm_truth false = refl

are_fields : (m : Meant) → CanHoldEach (fields_of m) → AreFields (table (name_of m)).keys (fields_of m)
are_fields (echo t) can = (refl, tt)
are_fields reset can = tt
are_fields parameters can = tt
are_fields image_list can = tt
are_fields (image_set hash confirm) can = (optional_bytes hash, (confirm_truth confirm, tt))
are_fields (upload image len off sha part) can =
    (optional_number image can.0, (optional_number len can.1.0, (required_number off can.1.1.0, (optional_bytes sha, (refl, (refl, tt))))))
are_fields (erase slot) can = (always_number 1 slot can.0, tt)
are_fields (stat_group name) can = (refl, tt)
are_fields stat_list can = tt
are_fields (setting_read name size) can = (refl, (optional_number size can.1.0, tt))
are_fields (setting_write name val) can = (refl, (refl, tt))
are_fields (setting_delete name) can = (refl, tt)
are_fields commit can = tt
are_fields load can = tt
are_fields save can = tt
are_fields (file_read off name) can = (required_number off can.0, (refl, tt))
are_fields (file_write off part len name) can = (required_number off can.0, (refl, (optional_number len can.1.1.0, (refl, tt))))
are_fields (file_status name) can = (refl, tt)
are_fields (file_hash name kind off len) can =
    (refl, (optional_words kind, (always_number 0 off can.1.1.0, (optional_number len can.1.1.1.0, tt))))
are_fields file_types can = tt
are_fields file_close can = tt

pub means_again : ShortestIsRead → KeysAreTexts → (version sequence : ℕ) (m : Meant) → version ≤ 1 → CanHoldEach (fields_of m) → meaning (request_message version sequence m) ≡ Ok m
means_again is_read texts version sequence m le can =
    let n = name_of m in
    let ks = (table n).keys in
    let fs = fields_of m in
    let recent : nat_lt version 2 ≡ true = grind (arith, nat_tests) in
    let small = is_small n in
    let read : map_of (shortest (request_value m)) ≡ Ok (written_pairs ks fs) = is_read (written_pairs ks fs) (written_has texts ks fs (sound_keys n) small.keys can) in
    let back : fields ks (written_pairs ks fs) ≡ Ok fs = fields_back ks fs (sound_keys n) (are_fields m can) in
    let found_row : by_row (name_at (table n).group (table n).command (operation_of (table n).operations)) (shortest (request_value m)) ≡ by_row (Some n) (shortest (request_value m)) = ap (λ o. by_row o (shortest (request_value m))) (named_again n) in
    let filled_by : by_row (Some n) (shortest (request_value m)) ≡ Ok m = rw (read, back, made_back m) refl in
    rw recent (found_row ∙ filled_by)

pub is_packet : PacketsAreReadBack → (version sequence : ℕ) (m : Meant) → version ≤ 1 → length (request_bytes version sequence m) ≤ LARGEST_PACKET → packet (request_bytes version sequence m) ≡ Some (request_message version sequence m)
is_packet packet_again version sequence m le fits =
    let small = is_small (name_of m) in
    packet_again (request_message version sequence m) (omega arith) (omega arith) (omega arith) (omega arith)
