use Rattle.snapshot.proofs.list_table_with.Goals as goal
