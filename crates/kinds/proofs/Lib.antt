-- Once: the promise of each public function fixes its answer.
pub mod Once
