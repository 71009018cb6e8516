use Rattle.std.proofs.Common.{refl}
use Rattle.std.specs.Fmt.{digits}
use Rattle.std.specs.Str.{is_utf8, chars}
use Rattle.hex.specs.Hex.{decode_pairs, encode_with}
use Rattle.smp_cbor.specs.Heads.{head_at, argument_at}
use Rattle.smp_cbor.specs.Shortest.{shortest, short_head}
use Rattle.smp_cbor.specs.Skipping.{text_at, octets_at, skip_at}
use Rattle.smp_cbor.specs.Values.{map_of, distinct_pairs, key_at, pairs_from, value_at}
use Rattle.smp_world.proofs.examples.boots_for_example.Goals as goal

pub returns-clause-one : goal.returns-clause-one
unfolding decode_pairs encode_with digits shortest short_head map_of head_at argument_at distinct_pairs key_at text_at octets_at is_utf8 chars skip_at pairs_from value_at lib.Utf8.encode
returns-clause-one c = refl

pub returns-clause-two : goal.returns-clause-two
unfolding decode_pairs encode_with digits shortest short_head map_of head_at argument_at distinct_pairs key_at text_at octets_at is_utf8 chars skip_at pairs_from value_at lib.Utf8.encode
returns-clause-two c = refl
