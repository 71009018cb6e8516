use Rattle.std.proofs.Common.{refl}
use Rattle.std.specs.Fmt.{digits}
use Rattle.std.specs.Str.{is_utf8, chars}
use Rattle.hex.specs.Hex.{decode_pairs, encode_with}
use Rattle.smp_cbor.specs.Heads.{head_at, argument_at}
use Rattle.smp_cbor.specs.Shortest.{shortest, short_head}
use Rattle.smp_cbor.specs.Skipping.{text_at, octets_at, skip_at}
use Rattle.smp_cbor.specs.Values.{map_of, distinct_pairs, key_at, pairs_from, value_at}
use Rattle.smp_world.proofs.examples.raw_packets_for_example.Goals as goal

pub returns-clause-echo : goal.returns-clause-echo
unfolding decode_pairs encode_with digits shortest short_head map_of head_at argument_at distinct_pairs key_at text_at octets_at is_utf8 chars skip_at pairs_from value_at lib.Utf8.encode
returns-clause-echo c = refl

pub returns-clause-newer : goal.returns-clause-newer
unfolding decode_pairs encode_with digits shortest short_head map_of head_at argument_at distinct_pairs key_at text_at octets_at is_utf8 chars skip_at pairs_from value_at lib.Utf8.encode
returns-clause-newer c = refl

pub returns-clause-unknown : goal.returns-clause-unknown
unfolding decode_pairs encode_with digits shortest short_head map_of head_at argument_at distinct_pairs key_at text_at octets_at is_utf8 chars skip_at pairs_from value_at lib.Utf8.encode
returns-clause-unknown c = refl

pub returns-clause-twice : goal.returns-clause-twice
unfolding decode_pairs encode_with digits shortest short_head map_of head_at argument_at distinct_pairs key_at text_at octets_at is_utf8 chars skip_at pairs_from value_at lib.Utf8.encode
returns-clause-twice c = refl

pub returns-clause-too_new : goal.returns-clause-too_new
unfolding decode_pairs encode_with digits shortest short_head map_of head_at argument_at distinct_pairs key_at text_at octets_at is_utf8 chars skip_at pairs_from value_at lib.Utf8.encode
returns-clause-too_new c = refl

pub returns-clause-dropped : goal.returns-clause-dropped
unfolding decode_pairs encode_with digits shortest short_head map_of head_at argument_at distinct_pairs key_at text_at octets_at is_utf8 chars skip_at pairs_from value_at lib.Utf8.encode
returns-clause-dropped c = refl

pub returns-clause-parameters : goal.returns-clause-parameters
unfolding decode_pairs encode_with digits shortest short_head map_of head_at argument_at distinct_pairs key_at text_at octets_at is_utf8 chars skip_at pairs_from value_at lib.Utf8.encode
returns-clause-parameters c = refl

pub returns-clause-counted : goal.returns-clause-counted
unfolding decode_pairs encode_with digits shortest short_head map_of head_at argument_at distinct_pairs key_at text_at octets_at is_utf8 chars skip_at pairs_from value_at lib.Utf8.encode
returns-clause-counted c = refl
