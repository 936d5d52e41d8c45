use Rattle.unit_tests.proofs.stores.byte_strings.put.Goals as goal

pub put_over-requires-clause-present : goal.put_over-requires-clause-present
put_over-requires-clause-present g c = (c.in-Some.field-0, c.in-Some.ensures.some.0, c.in-Some.ensures.some.1)
